-- `point::Point::from` meets its contract: a signed field that is copied is the one that was given. Assumes nothing.
use mathlib.Core.Path.{refl}
use mir.Syntax.{w8, w32}
use mir.ValLaws.{to_z-of_z}
use Rattle.capi.specs.PointAnswers.{given_point, yes}
use Rattle.capi.proofs.point.PointFromLas_point.from.Goals as goal

pub returns : goal.returns
unfolding given_point yes
returns c =
    let p = c.args.point in
    let told = c.struct_told-1.given in
    rw (
      to_z-of_z w32 p.x (record { sfits = told.1.1.1.0.1 }),
      to_z-of_z w32 p.y (record { sfits = told.1.1.1.1.0.1 }),
      to_z-of_z w32 p.z (record { sfits = told.1.1.1.1.1.0.1 }),
      to_z-of_z w8 p.scan_angle (record { sfits = told.1.1.1.1.1.1.1.1.1.1.1.1.1.1.1.1.1.0.1 }),
    )
    refl
