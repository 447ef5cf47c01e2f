-- `by_return::added` meets its contract. Assumes nothing.
use mathlib.Core.Path.{◌≡◌, refl, ap, ◌∙◌}
use Prim.Native.Nat.{ℕ, zero, suc, ◌+◌, ◌-◌, ◌≤◌, ◌<◌}
use native.Mathlib.Omega.{arith}
use mathlib.Core.Bool.{Bool, true, false}
use lib.ListN.{get_or}
use lib.Dec.{eqb}
use mir.Val.{bool_byte}
use borrow.Author.Tests.{eqb-true, eqb-false, eq-eqb, ne_eqb}
use Rattle.tally.specs.Bins.{one_among_zeros}
use Rattle.tally.proofs.by_return.added.Goals as goal

-- of the twelve numbers only number 5 is 1
one_at : (i : ℕ) → i < 12 → get_or one_among_zeros i 0 ≡ bool_byte (eqb i 5)
unfolding one_among_zeros
one_at zero h = refl
one_at (suc zero) h = refl
one_at (suc (suc zero)) h = refl
one_at (suc (suc (suc zero))) h = refl
one_at (suc (suc (suc (suc zero)))) h = refl
one_at (suc (suc (suc (suc (suc zero))))) h = refl
one_at (suc (suc (suc (suc (suc (suc zero)))))) h = refl
one_at (suc (suc (suc (suc (suc (suc (suc zero))))))) h = refl
one_at (suc (suc (suc (suc (suc (suc (suc (suc zero)))))))) h = refl
one_at (suc (suc (suc (suc (suc (suc (suc (suc (suc zero))))))))) h = refl
one_at (suc (suc (suc (suc (suc (suc (suc (suc (suc (suc zero)))))))))) h = refl
one_at (suc (suc (suc (suc (suc (suc (suc (suc (suc (suc (suc zero))))))))))) h = refl
one_at (suc (suc (suc (suc (suc (suc (suc (suc (suc (suc (suc (suc i)))))))))))) h = absurd (omega arith)

-- it is looked at exactly where the return number is the bin's
equal : (n bin : ℕ) → bin ≤ 5 → (b : Bool) → eqb n bin ≡ b → eqb (n + 5 - bin) 5 ≡ b
equal n bin h true e = eq-eqb (n + 5 - bin) 5 (omega (arith, eqb-true n bin e))
equal n bin h false e = ne_eqb (n + 5 - bin) 5 (λ q. eqb-false n bin e (omega (arith, q)))

pub returns : goal.returns
returns c =
    let a = c.args in
    rw (c.requires.0, c.from.ensures) (one_at (a.n + 5 - a.bin) (omega (arith, c.requires.1, c.requires.2)) ∙ ap bool_byte (equal a.n a.bin c.requires.3 (eqb a.n a.bin) refl))
