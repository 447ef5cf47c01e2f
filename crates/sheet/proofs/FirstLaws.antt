-- Whether a line passes a test, and how many are looked at for the first that does, by one line more.
-- Assumes nothing.
use mathlib.Core.Path.{◌≡◌}
use Prim.Native.Nat.{suc}
use mathlib.Core.Bool.{Bool, true, false}
use mathlib.Core.List.{List, [], ◌∷◌}
use Rattle.fields.specs.Lists.{any_of}
use Rattle.fields.specs.Bytes.{Bytes}
use Rattle.sheet.specs.Keeping.{unless, up_to_first}

module _ (p : Bytes → Bool) where
  -- it passes, and those behind it are not looked at
  pub first_passes : (l : Bytes) (ls : List Bytes) → p l ≡ true → (any_of p (l ∷ ls) ≡ true) × (up_to_first p (l ∷ ls) ≡ 1)
  unfolding any_of up_to_first unless
  first_passes l ls e = (rw e, rw e)

  -- it does not, and those behind it decide
  pub first_fails : (l : Bytes) (ls : List Bytes) → p l ≡ false
      → (any_of p (l ∷ ls) ≡ any_of p ls) × (up_to_first p (l ∷ ls) ≡ suc (up_to_first p ls))
  unfolding any_of up_to_first unless
  first_fails l ls e = (rw e, rw e)

  -- there is none
  pub no_lines : (ls : List Bytes) → ls ≡ [] → (any_of p ls ≡ false) × (up_to_first p ls ≡ 0)
  unfolding any_of up_to_first
  no_lines ls e = (rw e, rw e)
