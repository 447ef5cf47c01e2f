-- What is looked at of a file, one thing after the other, and the lines of what is kept; no public contract cites
-- these.
-- Assumes nothing.
use Rattle.std.specs.Prelude.{◌≡◌, ℕ, zero, suc, ◌+◌, ◌*◌, ◌^◌, ◌<◌, Bool, cond, List, ◌++◌, ltb}
use Rattle.fields.specs.Lists.{cons_if}
use Rattle.fields.specs.Bytes.{Bytes}
use Rattle.lasfile.specs.HeaderFields.{header_size, point_offset, record_count, format, record_length, point_count}
use Rattle.sheet.specs.Boxes.{keeps_by}
use Rattle.publicpart.specs.declared.Span.{Span}
use Rattle.publicpart.specs.Cutting.{span, payload_line, payload_lines, piece_lines}
use Rattle.release.specs.declared.kept_points.Keeper.{Keeper}
use Rattle.release.specs.declared.filling.Filling.{Filling}

-- the lines of n records and m points, each from a place on, where a keeper says which points are kept
unfoldable pub lines_of : Bytes → Keeper → Bytes → ℕ → ℕ → ℕ → ℕ → List Span
lines_of sheet keeper s n record_at m point_at =
    payload_lines sheet s n record_at ++ piece_lines (keeps_by keeper.table keeper.boxes (format s)) s (record_length s) m point_at

-- of what is still to look at
abbrev pub lines_from : Bytes → Keeper → Bytes → Filling → List Span
lines_from sheet keeper s t = lines_of sheet keeper s t.records t.record_at t.points t.point_at

-- of a file
abbrev pub kept_lines : Bytes → Keeper → Bytes → List Span
kept_lines sheet keeper s = lines_of sheet keeper s (record_count s) (header_size s) (point_count s) (point_offset s)

-- the header's fields are the file's, and sums of places and of lines do not wrap: a record has less than 2 ^ 17 bytes
pub record Ready (s : Bytes) (t : Filling) : Type 0 where
  pub format : t.format ≡ format s
  pub size : t.record_length ≡ record_length s
  pub short : t.record_length < 2 ^ 16
  pub few : t.k + (t.records + t.points) < 2 ^ 40
  pub records_low : t.record_at + t.records * 131072 < 2 ^ 50
  pub points_low : t.point_at + t.points * 65536 < 2 ^ 50

-- the line of the first thing, kept or not, where so many records are still to look at
unfoldable pub first_line : Bytes → ℕ → ℕ → ℕ → Span
first_line s zero record_at point_at = span point_at (record_length s)
first_line s (suc records) record_at point_at = payload_line s record_at

abbrev pub line_of : Bytes → Filling → Span
line_of s t = first_line s t.records t.record_at t.point_at

-- with that line, and whether a line is still to fill
abbrev pub with_line : Bytes → Filling → Filling
with_line s t =
    record {
      more = ltb t.k t.n;
      k = t.k;
      place = (line_of s t).place;
      length = (line_of s t).length;
      n = t.n;
      records = t.records;
      record_at = t.record_at;
      points = t.points;
      point_at = t.point_at;
      format = t.format;
      record_length = t.record_length;
    }

pub record HasLine (s : Bytes) (t : Filling) : Type 0 where
  pub here : span t.place t.length ≡ line_of s t
  pub more : t.more ≡ ltb t.k t.n

-- n lines are to be filled, and everything is still to look at
pub record Begun (s : Bytes) (n : ℕ) (t : Filling) : Type 0 where
  pub ready : Ready s t
  pub none : t.k ≡ 0
  pub bound : t.n ≡ n
  pub lines : (sheet : Bytes) (keeper : Keeper) → lines_from sheet keeper s t ≡ kept_lines sheet keeper s

-- the thing at hand was looked at: where it is kept its line comes first, and k counts it
pub record Looked (sheet : Bytes) (keeper : Keeper) (s : Bytes) (t r : Filling) : Type 0 where
  pub ready : Ready s r
  pub bound : r.n ≡ t.n
  pub keep : Bool
  pub count : r.k ≡ t.k + cond keep 1 0
  pub lines : lines_from sheet keeper s t ≡ cons_if keep (span t.place t.length) (lines_from sheet keeper s r)
  pub fewer : r.records + r.points < t.records + t.points
