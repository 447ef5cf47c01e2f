-- `raw::stored_of` meets its contract: each signed number comes back from its bits. Assumes nothing.
use mathlib.Core.Path.{◌≡◌, ◌∙◌}
use mir.Syntax.{w32}
use mir.Val.{to_z, of_z}
use mir.ValLaws.{to_z-of_z}
use Rattle.points.specs.Raw.{stored, stored_of}
use Rattle.points.proofs.raw.stored_of.Goals as goal

pub returns : goal.returns
unfolding stored_of stored
returns c =
    let p = c.args.point.now in
    let a = c.i32_at in
    let b = c.i32_at-2 in
    let d = c.i32_at-3 in
    let x : to_z w32 (of_z w32 a.result) ≡ (stored_of p).x = to_z-of_z w32 a.result (record { sfits = a.type_inv }) ∙ a.ensures in
    let y : to_z w32 (of_z w32 b.result) ≡ (stored_of p).y = to_z-of_z w32 b.result (record { sfits = b.type_inv }) ∙ b.ensures in
    let z : to_z w32 (of_z w32 d.result) ≡ (stored_of p).z = to_z-of_z w32 d.result (record { sfits = d.type_inv }) ∙ d.ensures in
    λ i. record { x = x i; y = y i; z = z i }
