-- Laws of single fields: a number that the format lacks, and a flag as a number.
-- Assumes nothing.
use mathlib.Core.Path.{◌≡◌, refl}
use Prim.Native.Nat.{ℕ, ◌≤◌}
use native.Mathlib.Omega.{arith}
use mathlib.Core.Bool.{Bool, true, false}
use mir.Val.{bool_byte}
use Rattle.std.specs.Prelude.{Option, None}
use Rattle.points.specs.Encoding.{value_if}

pub value_none : (place : Option ℕ) (n : ℕ) → place ≡ None → 0 ≡ value_if place n
unfolding value_if
value_none place n e = rw e refl

pub flag_le : (b : Bool) → bool_byte b ≤ 1
flag_le true = omega arith
flag_le false = omega arith
