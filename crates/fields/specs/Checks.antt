-- Checks in order: the number of the first that fails.
-- Assumes nothing.
use Rattle.std.specs.Prelude.{◌≡◌, ℕ, ◌≤◌, Bool, true, false, ◌||◌, not, List, [], ◌∷◌, T, ltb}
use Rattle.fields.specs.Bytes.{Bytes, same}

infix 5 ◌below◌ ◌differs_from◌
infixr 4 ◌or◌
-- what can be wrong
pub data Test : Type 0 where
  ◌below◌ : ℕ → ℕ → Test
  ◌differs_from◌ : Bytes → Bytes → Test
  not_so : Bool → Test
  ◌or◌ : Test → Test → Test

unfoldable pub fails : Test → Bool
fails (a below b) = ltb a b
fails (x differs_from y) = not (same x y)
fails (not_so b) = not b
fails (t or u) = fails t || fails u

-- what is known where a test does not fail
abbrev pub Clear : Test → Type 0
Clear (a below b) = b ≤ a
Clear (x differs_from y) = x ≡ y
Clear (not_so b) = T b
Clear (t or u) = Clear t × Clear u

-- what a table of checks says: that all pass, or the number of the first that fails
pub data Verdict : Type 0 where
  Passes : Verdict
  Fails : ℕ → Verdict

-- a number of the specification's tables (docs/SPECIFICATION.md), given where the test fails
abbrev pub Check : Type 0
Check = ℕ × Test

unfoldable pub fail_if : Bool → ℕ → Verdict → Verdict
fail_if true n later = Fails n
fail_if false n later = later

unfoldable pub first_failing : List Check → Verdict
first_failing [] = Passes
first_failing (c ∷ cs) = fail_if (fails c.1) c.0 (first_failing cs)

-- where the one verdict passes, the other
unfoldable pub then : Verdict → Verdict → Verdict
then Passes later = later
then (Fails n) later = Fails n

-- the number that is returned for a verdict
unfoldable pub number_of : Verdict → ℕ
number_of Passes = 0
number_of (Fails n) = n

abbrev pub AllClear : List Check → Type 0
AllClear [] = Unit {0}
AllClear (c ∷ cs) = Clear c.1 × AllClear cs
