-- `capi::las_coordinate` meets its contract. Assumes nothing.
use mathlib.Core.Path.{◌≡◌, subst}
use lib.IntN.{ℤ}
use mir.Syntax.{w32}
use mir.ValLaws.{to_z-of_z}
use Rattle.capi.specs.Interface.{las_coordinate}
use Rattle.capi.proofs.las_coordinate.Goals as goal

pub returns : goal.returns
unfolding las_coordinate
returns c =
    let same = to_z-of_z w32 c.args.stored c.ranges.stored in
    subst (λ (z : ℤ). c.coordinate_bits.result ≡ las_coordinate z c.args.scale c.args.offset) same
    c.coordinate_bits.ensures
