-- `common::last_of` meets its contract. Assumes nothing.
use mathlib.Core.Path.{◌≡◌, ◌∙◌}
use Prim.Native.Nat.{◌<◌}
use native.Mathlib.Omega.{arith}
use mir.Syntax.{w8}
use mir.Val.{SFits, of_z}
use mir.ValLaws.{of_z_fits}
use Rattle.points.specs.Encoding.{shared_fields}
use Rattle.points.proofs.common.BitsLaws.{passed}
use Rattle.points.proofs.common.PackedLaws.{bytes_three}
use Rattle.points.proofs.common.last_of.Goals as goal

pub returns : goal.returns
unfolding shared_fields
returns c f =
    let q = c.args.point in
    let fits : SFits w8 q.scan_angle = record { sfits = c.struct_told-1.given.1.1.1.1.1.1.1.1.1.0.1 } in
    let angle : c.from.result ≡ of_z w8 q.scan_angle = c.from.ensures ∙ c.cast_unsigned.ensures ∙ passed w8 q.scan_angle fits in
    let user : q.user_data < 256 = omega (arith, c.struct_told-1.given.1.1.1.1.1.1.1.1.1.1) in
    rw (angle, c.from-2.ensures, c.from-3.ensures)
    (bytes_three 1 1 2 (of_z w8 q.scan_angle) q.user_data q.source_id (of_z_fits w8 q.scan_angle fits).fits user)
