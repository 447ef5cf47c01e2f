-- A header as the numbers that another language is given. On a refusal every field but `number` is 0.
-- Assumes nothing.
use Rattle.std.specs.Prelude.{ℕ, List, [], ◌∷◌}
use Rattle.std.specs.Float.{binary64}
use Rattle.std.specs.Float.Ieee.{to_bits}
use Rattle.fields.specs.Bytes.{zeros}
use Rattle.scaling.specs.declared.Scaling.{Scaling}
use Rattle.publicpart.specs.Bounds.{bound_numbers}
use Rattle.reader.specs.declared.header.ByReturn.{ByReturn}
use Rattle.reader.specs.declared.header.Header.{Header}
use Rattle.reader.specs.Header.{HeaderRead, Fields, Refused}
use Rattle.capi.specs.declared.header.las_header.{las_header}

unfoldable pub by_return_numbers : ByReturn → List ℕ
by_return_numbers b = b.first ∷ b.second ∷ b.third ∷ b.fourth ∷ b.fifth ∷ []

-- doubles by their 64 bits
unfoldable pub scale_numbers : Scaling → List ℕ
scale_numbers s =
    to_bits binary64 s.x_scale ∷ to_bits binary64 s.y_scale ∷ to_bits binary64 s.z_scale ∷ []

unfoldable pub offset_numbers : Scaling → List ℕ
offset_numbers s =
    to_bits binary64 s.x_offset ∷ to_bits binary64 s.y_offset ∷ to_bits binary64 s.z_offset ∷ []

unfoldable pub found_header : Header → las_header
found_header h =
    record {
      number = 0;
      file_source_id = h.identity.file_source_id;
      global_encoding = h.identity.global_encoding;
      guid_1 = h.identity.guid_1;
      guid_2 = h.identity.guid_2;
      guid_3 = h.identity.guid_3;
      guid_4 = h.identity.guid_4;
      major = h.identity.version_major;
      minor = h.identity.version_minor;
      system_length = h.creation.system_length;
      software_length = h.creation.software_length;
      day = h.creation.day;
      year = h.creation.year;
      header_size = h.layout.header_size;
      point_offset = h.layout.point_offset;
      vlr_count = h.layout.vlr_count;
      point_format = h.layout.point_format;
      record_length = h.layout.record_length;
      point_count = h.layout.point_count;
      by_return = by_return_numbers h.by_return;
      scale = scale_numbers h.scaling;
      offset = offset_numbers h.scaling;
      bounds = bound_numbers h.bounds;
    }

unfoldable pub no_header : ℕ → las_header
no_header n =
    record {
      number = n;
      file_source_id = 0;
      global_encoding = 0;
      guid_1 = 0;
      guid_2 = 0;
      guid_3 = 0;
      guid_4 = 0;
      major = 0;
      minor = 0;
      system_length = 0;
      software_length = 0;
      day = 0;
      year = 0;
      header_size = 0;
      point_offset = 0;
      vlr_count = 0;
      point_format = 0;
      record_length = 0;
      point_count = 0;
      by_return = zeros 5;
      scale = zeros 3;
      offset = zeros 3;
      bounds = zeros 6;
    }

unfoldable pub header_numbers : HeaderRead → las_header
header_numbers (Fields h) = found_header h
header_numbers (Refused n) = no_header n
