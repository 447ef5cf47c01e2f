-- One point of a file.
-- Assumes nothing.
use Rattle.std.specs.Prelude.{ℕ, ◌+◌, ◌*◌, List, [], ◌∷◌, ltb}
use Rattle.fields.specs.Bytes.{Bytes, part}
use Rattle.fields.specs.Checks.{Check, first_failing, then, not_so, Verdict, Passes, Fails}
use Rattle.points.specs.Points.{point_of}
use Rattle.points.specs.declared.Point.{Point}
use Rattle.lasfile.specs.HeaderFields.{point_offset, point_count, record_length, format}
use Rattle.lasfile.specs.FileChecks.{file_verdict}

abbrev pub point_checks : Bytes → ℕ → List Check
point_checks s index = (11, not_so (ltb index (point_count s))) ∷ []

-- where a point's record lies
unfoldable pub point_place : Bytes → ℕ → ℕ
point_place s index = point_offset s + index * record_length s

-- the place of a point's record in the file, and its fields; or the number of a refusal
pub data PointAt : Type 0 where
  At : ℕ → Point → PointAt
  Refused : ℕ → PointAt

unfoldable pub point_if : Verdict → ℕ → Point → PointAt
point_if Passes place p = At place p
point_if (Fails n) place p = Refused n

-- it checks the file, then 11, and answers the point's place and fields
unfoldable pub point_at_of : Bytes → ℕ → PointAt
point_at_of s index =
    point_if (then (file_verdict s) (first_failing (point_checks s index))) (point_place s index)
    (point_of (format s) (part (point_place s index) (record_length s) s))
