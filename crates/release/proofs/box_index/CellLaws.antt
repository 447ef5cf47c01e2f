-- Laws of cells: a stored value from a box's low to its high lies in a cell from that of the low to that of the high.
-- Assumes nothing.
use mathlib.Core.Path.{◌≡◌, refl}
use Prim.Native.Nat.{ℕ, ◌-◌, ◌/◌, ◌%◌, ◌^◌, ◌≤◌}
use native.Mathlib.Omega.{arith}
use mathlib.Core.Bool.{true}
use native.Mathlib.Nat.{mul-le-mul_right}
use lib.IntN.{ℤ, pos, negsuc}
use lib.Signed.{le_z}
use lib.Pow.{pow_pos}
use lib.Ieee.Nearest.{div_mono}
use borrow.Author.Tests.{leb-true}
use Rattle.fields.proofs.LiftLaws.{lifted}
use Rattle.release.specs.BoxIndex.{key, cell_of}

-- ---- keys

key-le : (a b : ℤ) → le_z a b ≡ true → key a ≤ key b
unfolding key
key-le (pos a) (pos b) e = omega (arith, leb-true a b e)
key-le (pos a) (negsuc b) e = let z : ◌≡◌ {A = ℕ} 0 1 = cc in absurd (omega arith)
key-le (negsuc a) (pos b) e = omega arith
key-le (negsuc a) (negsuc b) e = omega (arith, leb-true b a e)

-- as the sum with 2 ^ 31
pub key_is : (z : ℤ) → lifted 2147483648 z ≡ key z
unfolding key
key_is (pos n) = refl
key_is (negsuc n) = refl

-- ---- cells

div-le : (a b s : ℕ) → a ≤ b → a / 2 ^ s ≤ b / 2 ^ s
div-le a b s h = div_mono a (2 ^ s) b (2 ^ s) (pow_pos s) (pow_pos s) (mul-le-mul_right (2 ^ s) h)

-- higher values lie in the same cell, or in a later one
pub cell_le : (begin bits : ℕ) (a b : ℤ) → le_z a b ≡ true → cell_of begin bits a ≤ cell_of begin bits b
unfolding cell_of
cell_le begin bits a b e =
    let less = key-le a b e in
    omega (arith, div-le (key a - begin) (key b - begin) (bits % 64) (omega (arith, less)))
