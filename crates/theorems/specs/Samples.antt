-- The specification's bench samples P1 to P10, in one table: what the definitions give, and what the specification
-- says.
-- Assumes nothing.
use Rattle.std.specs.Prelude.{◌≡◌, ℕ, false, List, [], ◌∷◌, ◌++◌, map, length, replicate, ℤ, pos, negsuc}
use Rattle.std.specs.Float.{binary64, fin}
use Rattle.std.specs.Float.Ieee.{to_bits}
use mir.Val.{bool_byte}
use Rattle.fields.specs.Lists.{All, kept}
use Rattle.fields.specs.Bytes.{Bytes, part, bytes_of, zeros, join}
use Rattle.fields.specs.Checks.{number_of}
use Rattle.points.specs.Points.{Decoded, Fields, Refused, decoded}
use Rattle.scaling.specs.Scaling.{coordinate_bits}
use Rattle.lasfile.specs.HeaderFields.{signature, version, point_offset}
use Rattle.lasfile.specs.FileChecks.{file_verdict}
use Rattle.sheet.specs.Sheet.{sheet_verdict}
use Rattle.sheet.specs.Keeping.{keeps_class}
use Rattle.publicpart.specs.Bounds.{up_from}
use Rattle.publicpart.specs.Release.{Outcome, release}
use Rattle.capi.specs.Answers.{released_numbers}

-- ---- what the samples are about

abbrev pub sheet3 : Bytes
sheet3 = 0x4B ∷ 0x53 ∷ 0x01 ∷ 0x02 ∷ 0x02 ∷ []

abbrev pub sheet4 : Bytes
sheet4 = 0x4B ∷ 0x53 ∷ 0x01 ∷ 0x03 ∷ 0x02 ∷ []

abbrev pub sheet5 : Bytes
sheet5 = 0x4B ∷ 0x53 ∷ []

abbrev pub sheet6 : Bytes
sheet6 = 0x4B ∷ 0x54 ∷ 0x01 ∷ []

-- a point as in P7, with any classification byte
abbrev pub point7 : ℕ → Bytes
point7 byte =
    0xFF ∷ 0xFF ∷ 0xFF ∷ 0xFF ∷ 0x64 ∷ 0x00 ∷ 0x00 ∷ 0x00 ∷ 0x00 ∷ 0x00 ∷ 0x00 ∷ 0x00
    ∷ 0x2C ∷ 0x01 ∷ 0x11 ∷ byte ∷ 0xFD ∷ 0x00 ∷ 0x07 ∷ 0x00 ∷ []

-- 0.5 and 10 as doubles
abbrev pub half : Bytes
half = 0x00 ∷ 0x00 ∷ 0x00 ∷ 0x00 ∷ 0x00 ∷ 0x00 ∷ 0xE0 ∷ 0x3F ∷ []

abbrev pub ten : Bytes
ten = 0x00 ∷ 0x00 ∷ 0x00 ∷ 0x00 ∷ 0x00 ∷ 0x00 ∷ 0x24 ∷ 0x40 ∷ []

-- n bytes that are not 0: an output before its release, and old counts and bounds
abbrev pub used : ℕ → Bytes
used n = replicate n 0xAA

-- the header's fields in their order; one VLR of payload 10; two points of format 1, one of them of class 2
abbrev pub fields9 : List Bytes
fields9 =
    signature
    ∷ zeros 20
    ∷ version
    ∷ zeros 64
    ∷ zeros 4
    ∷ bytes_of 2 227
    ∷ bytes_of 4 291
    ∷ bytes_of 4 1
    ∷ bytes_of 1 1
    ∷ bytes_of 2 28
    ∷ bytes_of 4 2
    ∷ used 20
    ∷ half
    ∷ half
    ∷ half
    ∷ ten
    ∷ ten
    ∷ ten
    ∷ used 48
    ∷ (zeros 20 ++ bytes_of 2 10 ++ zeros 32 ++ zeros 10)
    ∷ (point7 2 ++ zeros 8)
    ∷ (point7 5 ++ zeros 8)
    ∷ []

abbrev pub file9 : Bytes
file9 = join fields9

-- ---- what is compared

abbrev pub whole : List ℕ → List ℤ
whole ns = map pos ns

-- X, Y, Z, intensity, return number, number of returns, class, angle, user data, source ID, and the flags: synthetic,
-- key point, withheld
unfoldable pub fields_of : Decoded → List ℤ
fields_of (Refused n) = []
fields_of (Fields q) =
    q.x ∷ q.y ∷ q.z
    ∷ pos q.intensity ∷ pos q.return_number ∷ pos q.returns ∷ pos q.classification
    ∷ q.scan_angle ∷ pos q.user_data ∷ pos q.source_id
    ∷ pos (bool_byte q.synthetic) ∷ pos (bool_byte q.key_point) ∷ pos (bool_byte q.withheld) ∷ []

-- the four numbers returned
unfoldable pub four_numbers : Outcome → List ℤ
four_numbers o = let n = released_numbers o.0 in whole (n.number ∷ n.length ∷ n.points ∷ n.records ∷ [])

-- `fin false m e` is m · 2 ^ e, and `negsuc n` is -1 - n: 0.5 is 1 · 2 ^ -1, 10 is 5 · 2 and 9.5 is 19 · 2 ^ -1
unfoldable pub samples : List (List ℤ × List ℤ)
samples =
    -- P1, P2
    (whole (number_of (file_verdict (zeros 226)) ∷ []), whole (1 ∷ []))
    ∷ (whole (number_of (file_verdict (zeros 227)) ∷ []), whole (2 ∷ []))
    -- P3: the sheet passes, and of the classes 0 to 255 it keeps 2 alone; P4, P5, P6
    ∷ (whole (number_of (sheet_verdict sheet3) ∷ []), whole (0 ∷ []))
    ∷ (whole (kept (keeps_class sheet3) (up_from 0 256)), whole (2 ∷ []))
    ∷ (whole (number_of (sheet_verdict sheet4) ∷ []), whole (23 ∷ []))
    ∷ (whole (number_of (sheet_verdict sheet5) ∷ []), whole (22 ∷ []))
    ∷ (whole (number_of (sheet_verdict sheet6) ∷ []), whole (20 ∷ []))
    -- P7
    ∷ (
      fields_of (decoded 0 20 (point7 2)),
      negsuc 0 ∷ pos 100 ∷ pos 0 ∷ pos 300 ∷ pos 1 ∷ pos 2 ∷ pos 2 ∷ negsuc 2 ∷ pos 0 ∷ pos 7
          ∷ pos 0 ∷ pos 0 ∷ pos 0 ∷ [],
    )
    -- P8
    ∷ (
      whole (coordinate_bits (negsuc 0) (fin false 1 (negsuc 0)) (fin false 5 (pos 1)) ∷ []),
      whole (to_bits binary64 (fin false 19 (negsuc 0)) ∷ []),
    )
    ∷ (
      whole (bytes_of 8 (coordinate_bits (negsuc 0) (fin false 1 (negsuc 0)) (fin false 5 (pos 1)))),
      whole (0x00 ∷ 0x00 ∷ 0x00 ∷ 0x00 ∷ 0x00 ∷ 0x00 ∷ 0x23 ∷ 0x40 ∷ []),
    )
    -- P9: the file's number, offset and length, the release into 255 bytes with the new offset, and into 254
    ∷ (whole (number_of (file_verdict file9) ∷ point_offset file9 ∷ length file9 ∷ []), whole (0 ∷ 291 ∷ 347 ∷ []))
    ∷ (four_numbers (release sheet3 file9 (used 255)), whole (0 ∷ 255 ∷ 1 ∷ 0 ∷ []))
    ∷ (whole (point_offset (release sheet3 file9 (used 255)).1 ∷ []), whole (227 ∷ []))
    ∷ (four_numbers (release sheet3 file9 (used 254)), whole (30 ∷ 255 ∷ 0 ∷ 0 ∷ []))
    -- P10
    ∷ (four_numbers (release [] file9 (used 227)), whole (0 ∷ 227 ∷ 0 ∷ 0 ∷ []))
    ∷ (whole (part 179 48 (release [] file9 (used 227)).1), whole (zeros 48))
    ∷ []

-- each sample gives what the specification says
abbrev pub SamplesHold : Type 0
SamplesHold = All (λ s. s.0 ≡ s.1) samples
