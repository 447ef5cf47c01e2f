-- Signed numbers handed on in more bits; and a number of 32 bits with so much added that the sum is not negative, as
-- the machine makes it in 64 bits and hands it on without a sign.
-- Assumes nothing.
use mathlib.Core.Path.{◌≡◌, refl, ap, ◌∙◌}
use Prim.Native.Nat.{ℕ, suc, ◌+◌, ◌-◌, ◌^◌, ◌≤◌, ◌<◌}
use native.Mathlib.Omega.{arith}
use lib.IntN.{ℤ, pos, negsuc, ◌+ℤ◌, nat_abs}
use lib.Signed.{non_neg}
use lib.Dec.{T}
use mir.Syntax.{Width, w32, w64}
use mir.Val.{Fits, SFits, to_z, of_z, hbits}
use mir.ValLaws.{to_z-of_z}
use borrow.Author.Tests.{le-ltb}

-- ---- a number handed on in more bits

wider : (w v : Width) → 2 ^ hbits w ≤ 2 ^ hbits v → (z : ℤ) → SFits w z → SFits v z
wider w v h z f = record { sfits = omega (arith, h, f.sfits) }

pub cast_wider : (w v : Width) → 2 ^ hbits w ≤ 2 ^ hbits v → (z : ℤ) → SFits w z → SFits v (to_z w (of_z w z))
cast_wider w v h z f = rw (to_z-of_z w z f) (wider w v h z f)

-- ---- the sum

abbrev pub lifted : ℕ → ℤ → ℕ
lifted c (pos n) = n + c
lifted c (negsuc n) = c - suc n

-- as the machine makes it
abbrev pub sum : ℕ → ℤ → ℤ
sum c z = to_z w64 (of_z w64 (to_z w32 (of_z w32 z))) +ℤ pos c

module _ (c : ℕ) (enough : 2147483648 ≤ c) (few : c ≤ 4294967296) where
  lift_is : (z : ℤ) → SFits w32 z → z +ℤ pos c ≡ pos (lifted c z)
  lift_is (pos n) f = refl
  lift_is (negsuc n) f = let h : suc n ≤ c = omega (arith, f.sfits, enough) in rw (le-ltb c (suc n) h)

  lift_small : (z : ℤ) → SFits w32 z → lifted c z < 8589934592
  lift_small (pos n) f = omega (arith, f.sfits, few)
  lift_small (negsuc n) f = omega (arith, few)

  module _ (z : ℤ) (f : SFits w32 z) where
    wide : SFits w64 (to_z w32 (of_z w32 z))
    wide = cast_wider w32 w64 (omega arith) z f

    sum_is : sum c z ≡ pos (lifted c z)
    sum_is = ap (λ (y : ℤ). y +ℤ pos c) (to_z-of_z w64 (to_z w32 (of_z w32 z)) wide ∙ to_z-of_z w32 z f) ∙ lift_is z f

    pub sum_fits : SFits w64 (sum c z)
    sum_fits = rw sum_is (record { sfits = omega (arith, lift_small z f) })

    back_is : to_z w64 (of_z w64 (sum c z)) ≡ pos (lifted c z)
    back_is = to_z-of_z w64 (sum c z) sum_fits ∙ sum_is

    pub back_fits : T (non_neg (to_z w64 (of_z w64 (sum c z)))) × Fits w64 (nat_abs (to_z w64 (of_z w64 (sum c z))))
    back_fits = rw back_is (tt, record { fits = omega (arith, lift_small z f) })

    pub lift_back : nat_abs (to_z w64 (of_z w64 (sum c z))) ≡ lifted c z
    lift_back = rw back_is
