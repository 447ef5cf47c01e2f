-- `scaling::Scaling::coordinates` meets its contract. Assumes nothing.
use mathlib.Core.Path.{refl}
use mir.Syntax.{w32}
use mir.ValLaws.{to_z-of_z}
use Rattle.scaling.specs.Scaling.{coordinates_of}
use Rattle.scaling.proofs.Scaling.coordinates.Goals as goal

pub returns : goal.returns
unfolding coordinates_of
returns c =
    simp (
      c.coordinate-3.ensures,
      c.coordinate-2.ensures,
      c.coordinate.ensures,
      to_z-of_z w32 c.args.x c.ranges.x,
      to_z-of_z w32 c.args.y c.ranges.y,
      to_z-of_z w32 c.args.z c.ranges.z,
    )
    (refl {a = coordinates_of c.args.self c.args.x c.args.y c.args.z})
