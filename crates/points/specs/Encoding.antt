-- The bytes of a point's fields, and what encoding gives.
-- Assumes nothing.
use Rattle.std.specs.Prelude.{ℕ, ◌^◌, ◌<◌, ◌+◌, ◌*◌, List, [], ◌∷◌, ◌++◌, length, Option, Some, None}
use Rattle.std.proofs.lemmas.List.Edits.{sets}
use Rattle.std.specs.Int.{w8, w32}
use mir.Val.{SFits, of_z, bool_byte}
use Rattle.fields.specs.Bytes.{Bytes, bytes_of, join}
use Rattle.fields.specs.Checks.{Test, Check, ◌below◌, ◌or◌, first_failing, Verdict, Passes, Fails}
use Rattle.points.specs.Formats.{time_place, colour_place}
use Rattle.points.specs.declared.Point.{Point}
use Rattle.points.specs.Points.{shape}

-- the byte at 14, of its four parts
unfoldable pub flag_byte : Point → ℕ
flag_byte q = q.return_number + 8 * q.returns + 64 * bool_byte q.scan_direction + 128 * bool_byte q.edge

-- the classification byte of format f, of class and flags
unfoldable pub joined_class : ℕ → Point → ℕ
joined_class f q =
    q.classification + 32 * bool_byte q.synthetic + 64 * bool_byte q.key_point + 128 * bool_byte q.withheld

-- the first 20 bytes of format f
unfoldable pub shared_fields : ℕ → Point → List Bytes
shared_fields f q =
    bytes_of 4 (of_z w32 q.x)
    ∷ bytes_of 4 (of_z w32 q.y)
    ∷ bytes_of 4 (of_z w32 q.z)
    ∷ bytes_of 2 q.intensity
    ∷ bytes_of 1 (flag_byte q)
    ∷ bytes_of 1 (joined_class f q)
    ∷ bytes_of 1 (of_z w8 q.scan_angle)
    ∷ bytes_of 1 q.user_data
    ∷ bytes_of 2 q.source_id
    ∷ []

-- fields that a format has, or none of them
unfoldable pub if_placed : Option ℕ → List Bytes → List Bytes
if_placed None fs = []
if_placed (Some at) fs = fs

unfoldable pub time_fields : Option ℕ → Point → List Bytes
time_fields place q = if_placed place (bytes_of 8 q.gps_time ∷ [])

unfoldable pub colours : Point → List Bytes
colours q = bytes_of 2 q.red ∷ bytes_of 2 q.green ∷ bytes_of 2 q.blue ∷ []

unfoldable pub colour_fields : Option ℕ → Point → List Bytes
colour_fields place q = if_placed place (colours q)

-- the fields of format f, back to back
unfoldable pub point_fields : ℕ → Point → List Bytes
point_fields f q = shared_fields f q ++ (time_fields (time_place f) q ++ colour_fields (colour_place f) q)

unfoldable pub point_bytes : ℕ → Point → Bytes
point_bytes f q = join (point_fields f q)

-- what 13 is given for: a return number or number of returns exceeds 7, or a class exceeds 31
unfoldable pub large : ℕ → Point → Test
large f q = 7 below q.return_number or (7 below q.returns or 31 below q.classification)

unfoldable pub encode_checks : ℕ → ℕ → Point → Bytes → List Check
encode_checks f len q room = (12, shape f len (length room)) ∷ (13, large f q) ∷ []

unfoldable pub stored_if : Verdict → Bytes → Bytes → Verdict × Bytes
stored_if Passes b room = (Passes, sets room 0 b)
stored_if (Fails n) b room = (Fails n, room)

-- what encoding gives, and the room afterwards: the caller's extra bytes in it stay
unfoldable pub encoded : ℕ → ℕ → Point → Bytes → Verdict × Bytes
encoded f len q room = stored_if (first_failing (encode_checks f len q room)) (point_bytes f q) room

-- ---- fields that a format lacks

unfoldable pub value_if : Option ℕ → ℕ → ℕ
value_if None n = 0
value_if (Some at) n = n

-- a point with the fields that format f lacks at 0
unfoldable pub blank : ℕ → Point → Point
blank f q =
    record {
      x = q.x;
      y = q.y;
      z = q.z;
      intensity = q.intensity;
      return_number = q.return_number;
      returns = q.returns;
      scan_direction = q.scan_direction;
      edge = q.edge;
      classification = q.classification;
      scan_angle = q.scan_angle;
      user_data = q.user_data;
      source_id = q.source_id;
      gps_time = value_if (time_place f) q.gps_time;
      red = value_if (colour_place f) q.red;
      green = value_if (colour_place f) q.green;
      blue = value_if (colour_place f) q.blue;
      synthetic = q.synthetic;
      key_point = q.key_point;
      withheld = q.withheld;
    }

-- the ranges of the code's types, which every `Point` of the code is in
pub record InRange (q : Point) : Type 0 where
  pub x : SFits w32 q.x
  pub y : SFits w32 q.y
  pub z : SFits w32 q.z
  pub intensity : q.intensity < 2 ^ 16
  pub scan_angle : SFits w8 q.scan_angle
  pub user_data : q.user_data < 2 ^ 8
  pub source_id : q.source_id < 2 ^ 16
  pub gps_time : q.gps_time < 2 ^ 64
  pub red : q.red < 2 ^ 16
  pub green : q.green < 2 ^ 16
  pub blue : q.blue < 2 ^ 16

-- ---- what the code's helpers leave in a room

unfoldable pub stored_at : Option ℕ → Bytes → Bytes → Bytes
stored_at None b room = room
stored_at (Some at) b room = sets room at b

-- GPS time and then colour, those that format f has
abbrev pub with_others : ℕ → Point → Bytes → Bytes
with_others f q room =
    stored_at (colour_place f) (join (colour_fields (colour_place f) q))
    (stored_at (time_place f) (join (time_fields (time_place f) q)) room)
