-- `doubles::coordinate` meets its contract. Assumes nothing.
use mathlib.Core.Path.{refl}
use mir.Syntax.{w32}
use mir.ValLaws.{to_z-of_z}
use Rattle.scaling.specs.Scaling.{coordinate_of}
use Rattle.scaling.proofs.doubles.coordinate.Goals as goal

pub returns : goal.returns
unfolding coordinate_of
returns c = rw (to_z-of_z w32 c.args.stored c.ranges.stored) refl
