-- The public header block of LAS 1.2: every field, or the number of the first file check that fails.
-- Assumes nothing.
use Rattle.std.specs.Prelude.{ℕ, length}
use Rattle.fields.specs.Bytes.{Bytes, part, num}
use Rattle.fields.specs.Text.{cut}
use Rattle.fields.specs.Checks.{Verdict, Passes, Fails}
use Rattle.scaling.specs.Scaling.{scaling_of}
use Rattle.scaling.specs.declared.Bounds.{Bounds}
use Rattle.lasfile.specs.HeaderFields.{header_size, point_offset, record_count, format, record_length, point_count}
use Rattle.lasfile.specs.FileChecks.{file_verdict}
use Rattle.reader.specs.declared.header.Identity.{Identity}
use Rattle.reader.specs.declared.header.Creation.{Creation}
use Rattle.reader.specs.declared.header.FileLayout.{FileLayout}
use Rattle.reader.specs.declared.header.ByReturn.{ByReturn}
use Rattle.reader.specs.declared.header.Header.{Header}

unfoldable pub identity_of : Bytes → Identity
identity_of s =
    record {
      file_source_id = num (part 4 2 s);
      global_encoding = num (part 6 2 s);
      guid_1 = num (part 8 4 s);
      guid_2 = num (part 12 2 s);
      guid_3 = num (part 14 2 s);
      guid_4 = num (part 16 8 s);
      version_major = num (part 24 1 s);
      version_minor = num (part 25 1 s);
    }

unfoldable pub creation_of : Bytes → Creation
creation_of s =
    record {
      system_length = length (cut (part 26 32 s));
      software_length = length (cut (part 58 32 s));
      day = num (part 90 2 s);
      year = num (part 92 2 s);
    }

unfoldable pub file_layout_of : Bytes → FileLayout
file_layout_of s =
    record {
      header_size = header_size s;
      point_offset = point_offset s;
      vlr_count = record_count s;
      point_format = format s;
      record_length = record_length s;
      point_count = point_count s;
    }

unfoldable pub by_return_of : Bytes → ByReturn
by_return_of s =
    record {
      first = num (part 111 4 s);
      second = num (part 115 4 s);
      third = num (part 119 4 s);
      fourth = num (part 123 4 s);
      fifth = num (part 127 4 s);
    }

-- max before min, as their 64 bits
unfoldable pub stated_bounds : Bytes → Bounds
stated_bounds s =
    record {
      max_x = num (part 179 8 s);
      min_x = num (part 187 8 s);
      max_y = num (part 195 8 s);
      min_y = num (part 203 8 s);
      max_z = num (part 211 8 s);
      min_z = num (part 219 8 s);
    }

unfoldable pub header_of : Bytes → Header
header_of s =
    record {
      identity = identity_of s;
      creation = creation_of s;
      layout = file_layout_of s;
      by_return = by_return_of s;
      scaling = scaling_of s;
      bounds = stated_bounds s;
    }

-- what reading a header gives: every field, or the number of a refusal
pub data HeaderRead : Type 0 where
  Fields : Header → HeaderRead
  Refused : ℕ → HeaderRead

unfoldable pub header_if : Verdict → Header → HeaderRead
header_if Passes h = Fields h
header_if (Fails n) h = Refused n

-- what reading a header answers
unfoldable pub header_read : Bytes → HeaderRead
header_read s = header_if (file_verdict s) (header_of s)
