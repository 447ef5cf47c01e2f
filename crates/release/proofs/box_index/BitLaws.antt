-- Laws of single bits: what `and`, `or` and a shift make of them.
-- Assumes nothing.
use mathlib.Core.Path.{◌≡◌, refl, ap, ◌∙◌}
use Prim.Native.Nat.{ℕ, zero, suc, ◌+◌, ◌*◌, ◌/◌, ◌%◌, ◌^◌, ◌<◌, min, max}
use native.Mathlib.Omega.{arith}
use native.Mathlib.Nat.{pow-suc, mul-div_cancel, mul-mod_left, mod-lt, mod-eq_of_lt}
use lib.Arith.{digits_div, digits_mod}
use lib.Pow.{pow_mono}
use lib.Bits.{bit_and, bit_or, and_step, or_step, or_comm}
use Rattle.release.specs.BoxIndex.{bit_of, HasBit}

two_pos : 0 < 2
two_pos = omega arith

one_two : 1 < 2
one_two = omega arith

-- a number whose lowest digit is set, above other digits
odd : (q r : ℕ) → r ≡ 1 → (q * 2 + r) % 2 ≡ 1
odd q r e = rw e (digits_mod q one_two)

small_min : (a b : ℕ) → min (a % 2) (b % 2) < 2
small_min a b = omega (arith, mod-lt a two_pos, mod-lt b two_pos)

small_max : (a b : ℕ) → max (a % 2) (b % 2) < 2
small_max a b = omega (arith, mod-lt a two_pos, mod-lt b two_pos)

pub and_bit : (j a b : ℕ) → HasBit j a → HasBit j b → HasBit j (bit_and a b)
unfolding bit_of
and_bit zero a b x y = rw (and_step a b) (odd (bit_and (a / 2) (b / 2)) (min (a % 2) (b % 2)) (rw (x, y)))
and_bit (suc j) a b x y =
    rw (and_step a b, digits_div (bit_and (a / 2) (b / 2)) (small_min a b)) (and_bit j (a / 2) (b / 2) x y)

pub or_bit : (j a b : ℕ) → HasBit j a → HasBit j (bit_or a b)
unfolding bit_of
or_bit zero a b x = rw (or_step a b) (odd (bit_or (a / 2) (b / 2)) (max (a % 2) (b % 2)) (omega (arith, x, mod-lt b two_pos)))
or_bit (suc j) a b x =
    rw (or_step a b, digits_div (bit_or (a / 2) (b / 2)) (small_max a b)) (or_bit j (a / 2) (b / 2) x)

pub or_bit_r : (j a b : ℕ) → HasBit j b → HasBit j (bit_or a b)
or_bit_r j a b x = rw (or_comm a b) (or_bit j b a x)

-- bit j of 2 ^ j is set
pub own_bit : (j : ℕ) → HasBit j (2 ^ j)
unfolding bit_of
own_bit zero = refl
own_bit (suc j) = rw (pow-suc 2 j, mul-div_cancel (2 ^ j) two_pos) (own_bit j)

-- as the machine shifts it
pub shifted : (j : ℕ) → j < 64 → 1 * 2 ^ j % 18446744073709551616 ≡ 2 ^ j
shifted j h =
    let e : 1 * 2 ^ j ≡ 2 ^ j = omega arith in
    ap (λ (m : ℕ). m % 18446744073709551616) e ∙ mod-eq_of_lt (omega (arith, pow_mono {i = j} {j = 63} (omega arith)))

pub no_bit : (j : ℕ) → HasBit j 0 → ⊥
unfolding bit_of
no_bit zero x = absurd (omega (arith, x))
no_bit (suc j) x = no_bit j x

-- and no other is
pub only_bit : (i j : ℕ) → HasBit i (2 ^ j) → i ≡ j
unfolding bit_of
only_bit zero zero x = refl
only_bit zero (suc j) x = absurd (omega (arith, rw (pow-suc 2 j, mul-mod_left (2 ^ j) 2) at x))
only_bit (suc i) zero x = absurd (no_bit i x)
only_bit (suc i) (suc j) x = ap suc (only_bit i j (rw (pow-suc 2 j, mul-div_cancel (2 ^ j) two_pos) at x))
