-- What the lines of a list name, written one after the other; no public contract cites these.
-- Assumes nothing.
use Rattle.std.specs.Prelude.{ℕ, ◌+◌, ◌≤◌, List, ◌++◌, map, length, take, drop}
use Rattle.std.proofs.lemmas.List.Edits.{sets}
use Rattle.fields.specs.Bytes.{Bytes, join}
use Rattle.lasfile.specs.Records.{record_bytes}
use Rattle.lasfile.specs.HeaderFields.{header_block}
use Rattle.publicpart.specs.Cutting.{named, record_named}
use Rattle.publicpart.specs.declared.Span.{Span}
use Rattle.publicpart.specs.declared.Released.{Released}

-- the record of a payload's line, as it is written
unfoldable pub record_from : Bytes → Span → Bytes
record_from s l = record_bytes 2 (record_named s l)

-- the records of such lines one after the other
unfoldable pub records_named : Bytes → List Span → Bytes
records_named s ls = join (map (record_from s) ls)

-- the points of lines one after the other
unfoldable pub points_named : Bytes → List Span → Bytes
points_named s ls = join (map (named s) ls)

-- the bytes that go directly after the header: the records of the first lines, and the points of those behind them
unfoldable pub items : Bytes → List Span → Released → Bytes
items s list r = records_named s (take r.records list) ++ points_named s (take r.points (drop r.records list))

-- the list has the lines, and the output room for what they name
pub record ItemsFit (s : Bytes) (list : List Span) (r : Released) (room : ℕ) : Type 0 where
  pub lines : r.records + r.points ≤ length list
  pub within : header_block + length (items s list r) ≤ room

abbrev pub with_items : Bytes → List Span → Released → Bytes → Bytes
with_items s list r out = sets out header_block (items s list r)
