-- What a file holds, and what a sheet leaves of it: the public part (docs/SPECIFICATION.md).
-- Assumes nothing.
use Rattle.std.specs.Prelude.{ℕ, Bool, List, drop}
use Rattle.fields.specs.Lists.{kept}
use Rattle.fields.specs.Bytes.{Bytes, part, num, pieces}
use Rattle.fields.specs.Text.{cut}
use Rattle.lasfile.specs.Records.{Record, walk}
use Rattle.lasfile.specs.HeaderFields.{header_size, point_offset, record_count, format, record_length, point_count}
use Rattle.sheet.specs.Keeping.{keeps_record, keeps_point}

-- the "carried" header fields: bytes 4 to 23, both cut texts, day, year, format, record length, scales and offsets by
-- their bits
pub record Carried : Type 0 where
  pub ids : Bytes
  pub system : Bytes
  pub software : Bytes
  pub day : ℕ
  pub year : ℕ
  pub format : ℕ
  pub record_length : ℕ
  pub scaling : Bytes

-- the carried fields, and records and points in order
pub record Public : Type 0 where
  pub carried : Carried
  pub records : List Record
  pub points : List Bytes

unfoldable pub carried_of : Bytes → Carried
carried_of s =
    record {
      ids = part 4 20 s;
      system = cut (part 26 32 s);
      software = cut (part 58 32 s);
      day = num (part 90 2 s);
      year = num (part 92 2 s);
      format = format s;
      record_length = record_length s;
      scaling = part 131 48 s;
    }

-- all that a release could show of a file
unfoldable pub contents : Bytes → Public
contents s =
    record {
      carried = carried_of s;
      records = walk 2 (record_count s) (header_size s) s;
      points = pieces (point_count s) (record_length s) (drop (point_offset s) s);
    }

-- whether a sheet keeps a record, by its cut user ID and its record ID
abbrev pub sheet_keeps : Bytes → Record → Bool
sheet_keeps sheet r = keeps_record sheet r.user r.id

-- what a sheet leaves of it
unfoldable pub restrict : Bytes → Public → Public
restrict sheet p =
    record {
      carried = p.carried;
      records = kept (sheet_keeps sheet) p.records;
      points = kept (keeps_point sheet p.carried.format) p.points;
    }

-- the "public part" of a file under a sheet
unfoldable pub public_of : Bytes → Bytes → Public
public_of sheet s = restrict sheet (contents s)
