-- How many boxes there are, as a number from 0 to 64, apart from any code.
-- Assumes nothing.
use mathlib.Core.Path.{◌≡◌, refl, ap, ◌∙◌}
use Prim.Native.Nat.{ℕ, ◌+◌, ◌≤◌}
use native.Mathlib.Omega.{arith}
use mathlib.Core.Bool.{Bool, true, false, cond}
use lib.Dec.{T, ltb}
use lib.IntN.{ℤ, pos, negsuc, nat_abs}
use lib.Signed.{lt_z, non_neg}
use mir.Syntax.{w32}
use mir.Val.{SFits, to_z, of_z}
use mir.ValLaws.{to_z-of_z}
use borrow.Author.Tests.{ltb-true, ltb-false, lt-ltb}
use Rattle.sheet.specs.declared.boxes.Boxes.{Boxes}
use Rattle.sheet.specs.Boxes.{up_to64, box_count, counted}

few : (n : ℕ) (b : Bool) → ltb n 64 ≡ b → n ≤ 64 → cond b n 64 ≡ n
few n true e h = refl
few n false e h = omega (arith, ltb-false n 64 e)

-- a count up to 64 is how many there are
pub count_as : (b : Boxes) (n : ℕ) → b.count ≡ pos n → n ≤ 64 → box_count b ≡ n
unfolding box_count up_to64
count_as b n e h = rw e (few n (ltb n 64) refl h)

low : (n : ℕ) (b : Bool) → ltb n 64 ≡ b → cond b n 64 ≤ n
low n true e = omega arith
low n false e = omega (arith, ltb-false n 64 e)

pub at_most : (n : ℕ) → up_to64 (pos n) ≤ n
unfolding up_to64
at_most n = low n (ltb n 64) refl

-- a count is written as it is
small : (n : ℕ) → n ≤ 65 → to_z w32 n ≡ pos n
small n h = rw (lt-ltb n 2147483648 (omega arith))

-- these boxes under another count
abbrev pub numbering : Boxes → ℤ → Boxes
numbering b k = record { x = b.x; y = b.y; z = b.z; count = k }

pub counts_one : (b : Boxes) (n : ℕ) → n ≡ box_count b → n ≤ 64 → numbering b (to_z w32 (n + 1)) ≡ counted b
counts_one b n e h = ap (numbering b) (small (n + 1) (omega arith) ∙ ap (λ (m : ℕ). pos (m + 1)) e)

-- a test of a number, as the machine makes it of its bits
pub tested : {z : ℤ} {b : Bool} (n : ℕ) → SFits w32 z → lt_z (to_z w32 (of_z w32 z)) (pos n) ≡ b → lt_z z (pos n) ≡ b
tested {z} n f e = rw (to_z-of_z w32 z f) at e

pub below_0 : (z : ℤ) → lt_z z (pos 0) ≡ true → 0 ≡ up_to64 z
unfolding up_to64
below_0 (pos n) e = absurd (omega (arith, ltb-true n 0 e))
below_0 (negsuc n) e = refl

pub from_64 : (z : ℤ) → lt_z z (pos 64) ≡ false → 64 ≡ up_to64 z
unfolding up_to64
from_64 (pos n) e = rw e
from_64 (negsuc n) e = let z : ◌≡◌ {A = ℕ} 0 1 = cc in absurd (omega arith)

pub not_below_0 : (z : ℤ) → lt_z z (pos 0) ≡ false → T (non_neg z)
not_below_0 (pos n) e = tt
not_below_0 (negsuc n) e = let z : ◌≡◌ {A = ℕ} 0 1 = cc in absurd (omega arith)

pub below_64 : (z : ℤ) → lt_z z (pos 0) ≡ false → lt_z z (pos 64) ≡ true → (nat_abs z ≡ up_to64 z) × (nat_abs z ≤ 64)
unfolding up_to64
below_64 (pos n) e f = (rw f, omega (arith, ltb-true n 64 f))
below_64 (negsuc n) e f = let z : ◌≡◌ {A = ℕ} 0 1 = cc in absurd (omega arith)
