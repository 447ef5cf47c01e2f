-- `doubles::coordinate_bits` meets its contract. Assumes nothing.
use mathlib.Core.Path.{refl}
use mir.Syntax.{w32}
use mir.ValLaws.{to_z-of_z}
use Rattle.scaling.specs.Scaling.{coordinate_bits}
use Rattle.scaling.proofs.doubles.coordinate_bits.Goals as goal

pub returns : goal.returns
unfolding coordinate_bits
returns c =
    simp (
      c.bits_of.ensures,
      c.coordinate.ensures,
      c.double_of-2.ensures,
      c.double_of.ensures,
      to_z-of_z w32 c.args.stored c.ranges.stored,
    )
    refl
