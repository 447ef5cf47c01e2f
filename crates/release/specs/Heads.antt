-- The header of a file and totals.
-- Assumes nothing.
use Rattle.std.specs.Prelude.{[], List, ◌∷◌, length, take, drop, leb, ℕ, ◌+◌}
use Rattle.fields.specs.Lists.{list_if}
use Rattle.fields.specs.Bytes.{Bytes, join, start}
use Rattle.lasfile.specs.HeaderFields.{header_block}
use Rattle.publicpart.specs.Bounds.{bound_numbers}
use Rattle.publicpart.specs.Public.{carried_of}
use Rattle.publicpart.specs.Head.{Head, head_fields, head_widths}
use Rattle.tally.specs.Bins.{bin_numbers}
use Rattle.release.specs.declared.head.HeadTotals.{HeadTotals}
use Rattle.std.proofs.lemmas.List.Edits.{sets}

-- the carried fields of a file, and totals
unfoldable pub head_with : Bytes → HeadTotals → Head
head_with s t =
    record {
      carried = carried_of s;
      offset = t.offset;
      records = t.records;
      points = t.points;
      bins = bin_numbers t.bins;
      bounds = bound_numbers t.bounds;
    }

-- the header's bytes; none where the file is shorter than a header
unfoldable pub head_bytes : Bytes → HeadTotals → Bytes
head_bytes s t = list_if (leb header_block (length s)) (join (head_fields (head_with s t)))

-- ---- fields stored one after the other; no public contract cites these

-- each field behind the widths before it, from a place on; where the widths are numerals, so are the places
abbrev pub stores : List ℕ → List Bytes → Bytes → ℕ → Bytes
stores [] fs d at = d
stores (w ∷ ws) [] d at = d
stores (w ∷ ws) (f ∷ fs) d at = stores ws fs (sets d at f) (at + w)

-- n fields of a header, from number i on (the signature is number 0), each at its place
abbrev pub fields_stored : ℕ → ℕ → Head → Bytes → Bytes
fields_stored i n h d = stores (take n (drop i head_widths)) (take n (drop i (head_fields h))) d (start i head_widths)
