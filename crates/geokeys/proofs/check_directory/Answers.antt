-- `geokeys::check_directory` meets its contract. Assumes nothing.
use mathlib.Core.Path.{sym}
use mathlib.Core.Logic.{inl, inr}
use mathlib.Core.List.{[], ◌∷◌}
use native.Mathlib.Omega.{arith}
use Rattle.fields.specs.Bytes.{Bytes}
use Rattle.fields.proofs.ByteLaws.{differs, agrees}
use Rattle.fields.proofs.CheckLaws.{first_fails, all_clear}
use Rattle.geokeys.specs.GeoKeys.{key_count}
use Rattle.geokeys.proofs.check_directory.Goals as goal

-- 1, 1, 0
abbrev opening : Bytes
opening = 1 ∷ 0 ∷ 1 ∷ 0 ∷ 0 ∷ 0 ∷ []

pub returns-then-directory-number_at : goal.returns-then-directory-number_at
unfolding key_count
returns-then-directory-number_at c = sym (first_fails _ _ _ (inr (inr (omega arith))))

pub returns-then-not-same_bytes : goal.returns-then-not-same_bytes
returns-then-not-same_bytes c =
    sym (first_fails _ _ _ (inr (inl (differs _ _ _ opening c.same_bytes.ensures c.part_at.ensures c.if-not-same_bytes.true))))

pub returns : goal.returns
unfolding key_count
returns c = sym (all_clear _ ((omega arith, (agrees _ _ _ opening c.same_bytes.ensures c.part_at.ensures c.if-not-same_bytes.false, omega arith)), tt))
