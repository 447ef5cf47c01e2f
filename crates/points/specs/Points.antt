-- Point records: the fields of a record's bytes.
-- Assumes nothing.
use Rattle.std.specs.Prelude.{ℕ, ◌+◌, List, [], ◌∷◌, length, get_or, eqb, Option, Some, None}
use Rattle.std.specs.Int.{w8}
use Rattle.std.proofs.Common.{to_z}
use Rattle.fields.specs.Bytes.{Bytes, part, num}
use Rattle.fields.specs.Checks.{Test, Check, ◌below◌, not_so, ◌or◌, first_failing, Verdict, Passes, Fails}
use Rattle.points.specs.Raw.{bits, bit, class_of, synthetic_of, key_point_of, withheld_of, return_of, stored}
use Rattle.points.specs.Formats.{format_size, time_place, colour_place}
use Rattle.points.specs.declared.Point.{Point}

-- ---- fields out of bytes

-- the number of `width` bytes, `shift` bytes behind a place; 0 where the format lacks the field
unfoldable pub number_in : ℕ → Option ℕ → ℕ → Bytes → ℕ
number_in width None shift p = 0
number_in width (Some at) shift p = num (part (at + shift) width p)

-- the fields of a record p of format f
unfoldable pub point_of : ℕ → Bytes → Point
point_of f p =
    record {
      x = stored 0 p;
      y = stored 1 p;
      z = stored 2 p;
      intensity = num (part 12 2 p);
      return_number = return_of f p;
      returns = bits 3 3 (get_or p 14 0);
      scan_direction = bit 6 (get_or p 14 0);
      edge = bit 7 (get_or p 14 0);
      classification = class_of f p;
      scan_angle = to_z w8 (get_or p 16 0);
      user_data = get_or p 17 0;
      source_id = num (part 18 2 p);
      gps_time = number_in 8 (time_place f) 0 p;
      red = number_in 2 (colour_place f) 0 p;
      green = number_in 2 (colour_place f) 2 p;
      blue = number_in 2 (colour_place f) 4 p;
      synthetic = synthetic_of f p;
      key_point = key_point_of f p;
      withheld = withheld_of f p;
    }

-- what 12 is given for: the n bytes differ from the record length, that length is below the format's size, or the
-- format is above 3
unfoldable pub shape : ℕ → ℕ → ℕ → Test
shape f len n = not_so (eqb n len) or (len below format_size f or 3 below f)

unfoldable pub decode_checks : ℕ → ℕ → Bytes → List Check
decode_checks f len p = (12, shape f len (length p)) ∷ []

-- what decoding gives: the fields, or the number of a refusal
pub data Decoded : Type 0 where
  Fields : Point → Decoded
  Refused : ℕ → Decoded

unfoldable pub fields_if : Verdict → Point → Decoded
fields_if Passes q = Fields q
fields_if (Fails n) q = Refused n

-- what decoding gives
unfoldable pub decoded : ℕ → ℕ → Bytes → Decoded
decoded f len p = fields_if (first_failing (decode_checks f len p)) (point_of f p)
