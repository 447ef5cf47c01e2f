-- `box_index::Axis::of` meets its contract. Assumes nothing.
use Rattle.std.proofs.Common.{◌≡◌, rules, get_or}
use lib.IntN.{ℤ, pos}
use mir.Syntax.{w32}
use mir.Val.{to_z, of_z}
use mir.ValLaws.{to_z-of_z}
use Rattle.release.proofs.box_index.MarkLaws.{boxes_next}
use Rattle.release.proofs.box_index.Axis.of.Goals as goal

pub loop-j-preserved : goal.loop-j-preserved
loop-j-preserved c =
    let e = c.args.edges.now in
    let l = c.loop-j in
    let low : ℤ = get_or e.low l.j (pos 0) in
    let high : ℤ = get_or e.high l.j (pos 0) in
    let from : to_z w32 (of_z w32 low) ≡ low = to_z-of_z w32 low (search rules) in
    let to : to_z w32 (of_z w32 high) ≡ high = to_z-of_z w32 high (search rules) in
    boxes_next e l.j l.axis c.mark.new.self l.invariant (rw (from, to) at c.mark.ensures)
