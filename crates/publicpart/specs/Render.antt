-- The released file of a public part.
-- Assumes nothing.
use Rattle.std.specs.Prelude.{ℕ, ◌+◌, ◌*◌, ◌++◌, length}
use Rattle.fields.specs.Lists.{total}
use Rattle.fields.specs.Bytes.{Bytes, join}
use Rattle.lasfile.specs.HeaderFields.{header_block}
use Rattle.lasfile.specs.Records.{written_length, records_bytes}
use Rattle.scaling.specs.Scaling.{scaling_in}
use Rattle.publicpart.specs.Bounds.{bins, bounds}
use Rattle.publicpart.specs.Public.{Public}
use Rattle.publicpart.specs.Head.{Head, head_fields}

-- the new point offset: the records directly after the header, the points directly after those
unfoldable pub new_offset : Public → ℕ
new_offset p = header_block + total (written_length 2) p.records

unfoldable pub head_of : Public → Head
head_of p =
    record {
      carried = p.carried;
      offset = new_offset p;
      records = length p.records;
      points = length p.points;
      bins = bins 5 p.carried.format p.points;
      bounds = bounds (scaling_in p.carried.scaling) p.points;
    }

-- the released file: header, records, points, nothing else
unfoldable pub render : Public → Bytes
render p = join (head_fields (head_of p)) ++ (records_bytes 2 p.records ++ join p.points)

-- what a public part comes to: the released file's length, points and records
pub record Totals : Type 0 where
  pub file_length : ℕ
  pub points : ℕ
  pub records : ℕ

unfoldable pub totals : Public → Totals
totals p =
    record {
      file_length = new_offset p + length p.points * p.carried.record_length;
      points = length p.points;
      records = length p.records;
    }
