-- `kept_points::Keeper::choose_by_table` meets its contract. Assumes nothing.
use Rattle.std.proofs.Common.{rules, arith, ap, ◌∙◌}
use Rattle.sheet.specs.Keeping.{in_table}
use Rattle.release.proofs.kept_points.LoopLaws.{record_fits}
use Rattle.release.proofs.kept_points.ChooseLaws.{choose_begun, choose_next}
use Rattle.release.proofs.kept_points.Keeper.choose_by_table.Goals as goal

pub loop-i-init : goal.loop-i-init
loop-i-init c = choose_begun _ _ _ _ (search rules)

pub loop-i-preserved : goal.loop-i-preserved
loop-i-preserved c =
    let a = c.args in
    let l = c.loop-i in
    let keep = in_table a.self.now.table a.block.format in
    let fits = record_fits l.i a.block.count a.block.record_length _ c.loop-i-test.true a.block.held in
    rw c.from-k.ensures
    (choose_next keep a.block.record_length a.block.bytes.now l.chosen.places l.k l.i (omega (arith, c.requires, c.loop-i-test.true)) fits l.invariant _
    (c.in_table.ensures ∙ ap keep c.record_at-point.ensures))
