-- `kept_points::Keeper::count_by_table` meets its contract. Assumes nothing.
use Rattle.std.proofs.Common.{refl, arith, ap, ◌∙◌}
use Rattle.fields.specs.Lists.{kept}
use Rattle.fields.specs.Bytes.{pieces}
use Rattle.sheet.specs.Keeping.{in_table}
use Rattle.release.proofs.kept_points.LoopLaws.{count_next, count_le}
use Rattle.release.proofs.kept_points.Keeper.count_by_table.Goals as goal

pub loop-i-init : goal.loop-i-init
unfolding kept pieces
loop-i-init c = (refl, omega arith)

pub loop-i-preserved : goal.loop-i-preserved
loop-i-preserved c =
    let p = c.args.points in
    let l = c.loop-i in
    let keep = in_table c.args.self.now.table p.format in
    rw c.from-n.ensures (
      count_next keep l.i p.record_length p.bytes.now l.n _ l.invariant.0 (c.in_table.ensures ∙ ap keep c.record_at-point.ensures),
      count_le l.n l.i _ l.invariant.1,
    )
