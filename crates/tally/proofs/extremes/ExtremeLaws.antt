-- Laws of the larger and the smaller of two stored values. Assumes nothing.
use mathlib.Core.Path.{◌≡◌, refl, ap}
use Prim.Native.Nat.{ℕ, ◌≤◌}
use native.Mathlib.Omega.{arith}
use mathlib.Core.Bool.{Bool, true, false, cond}
use lib.Dec.{ltb}
use lib.IntN.{ℤ, pos, negsuc}
use mir.Syntax.{w32}
use mir.Val.{SFits, to_z, of_z}
use borrow.Author.Tests.{ltb-false}
use Rattle.std.specs.Int.{int_max, int_min}
use Rattle.std.proofs.Common.{rules}
use Rattle.std.proofs.lemmas.Int.{to_z-of_z}
use Rattle.publicpart.specs.Bounds.{larger_of, smaller_of}

nearer : (side : ℕ → ℤ) (n m : ℕ) (b : Bool) → ltb n m ≡ b → n ≤ m → cond b (side n) (side m) ≡ side n
nearer side n m true e h = refl
nearer side n m false e h = ap side (omega (arith, ltb-false n m e))

-- a value of 32 bits takes the place of both ends
pub max_first : (v : ℤ) → SFits w32 v → larger_of (negsuc 2147483647) v ≡ v
max_first (pos n) f = refl
max_first (negsuc n) f = nearer negsuc n 2147483647 (ltb n 2147483647) refl (omega (arith, f.sfits))

pub min_first : (v : ℤ) → SFits w32 v → smaller_of (pos 2147483647) v ≡ v
min_first (pos n) f = nearer pos n 2147483647 (ltb n 2147483647) refl (omega (arith, f.sfits))
min_first (negsuc n) f = refl

-- the library's larger and smaller of two values of 32 bits, which it is given by their bits
pub larger : (z a b : ℤ) → z ≡ int_max (to_z w32 (of_z w32 b)) (to_z w32 (of_z w32 a)) → SFits w32 a → SFits w32 b → z ≡ larger_of a b
larger z a b e f g = search (rules, to_z-of_z)

pub smaller : (z a b : ℤ) → z ≡ int_min (to_z w32 (of_z w32 a)) (to_z w32 (of_z w32 b)) → SFits w32 a → SFits w32 b → z ≡ smaller_of a b
smaller z a b e f g = search (rules, to_z-of_z)
