-- A law of two's complement: numbers that are passed on as their bits.
-- Assumes nothing.
use mathlib.Core.Path.{◌≡◌, ap}
use lib.IntN.{ℤ}
use mir.Syntax.{Width}
use mir.Val.{SFits, to_z, of_z}
use mir.ValLaws.{to_z-of_z}

pub passed : (w : Width) (z : ℤ) → SFits w z → of_z w (to_z w (of_z w z)) ≡ of_z w z
passed w z f = ap (of_z w) (to_z-of_z w z f)
