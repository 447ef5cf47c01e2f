-- The release: its answer, and the output afterwards.
-- Assumes nothing.
use Rattle.std.specs.Prelude.{ℕ, ◌-◌, Bool, true, false, ◌++◌, length, ltb}
use Rattle.fields.specs.Bytes.{Bytes, zeros}
use Rattle.fields.specs.Checks.{then, Verdict, Passes, Fails}
use Rattle.lasfile.specs.FileChecks.{file_verdict}
use Rattle.sheet.specs.Sheet.{sheet_verdict}
use Rattle.publicpart.specs.Public.{Public, public_of}
use Rattle.publicpart.specs.Render.{render}

-- what a release answers
pub data Answer : Type 0 where
  -- the released file's length, its points and its records
  Released : ℕ → ℕ → ℕ → Answer
  -- the output is too short for the released file, whose length this is
  Short : ℕ → Answer
  -- the number of the check that fails
  Refused : ℕ → Answer

-- an answer, and the output afterwards
abbrev pub Outcome : Type 0
Outcome = Answer × Bytes

unfoldable pub refuse_or : Verdict → Bytes → Outcome → Outcome
refuse_or (Fails n) out later = (Refused n, out)
refuse_or Passes out later = later

unfoldable pub short_or : Bool → ℕ → Bytes → Outcome → Outcome
short_or true n out later = (Short n, out)
short_or false n out later = later

-- the output of n bytes starts with the released file, and its rest is zeroed
unfoldable pub accepted : Public → ℕ → Outcome
accepted p n = (
  Released (length (render p)) (length p.points) (length p.records),
  render p ++ zeros (n - length (render p)),
)

unfoldable pub room_or : Public → Bytes → Outcome
room_or p out = short_or (ltb (length out) (length (render p))) (length (render p)) out (accepted p (length out))

-- a release checks file (1 to 10), sheet (20 to 24), room (30)
unfoldable pub release : Bytes → Bytes → Bytes → Outcome
release sheet s out = refuse_or (then (file_verdict s) (sheet_verdict sheet)) out (room_or (public_of sheet s) out)
