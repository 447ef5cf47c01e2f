-- `kept_points::Keeper::count` meets its contract. Assumes nothing.
use Rattle.std.proofs.Common.{length, ap, sym, ◌∙◌}
use Rattle.release.proofs.kept_points.KeptPointLaws.{kept_by_table}
use Rattle.release.proofs.kept_points.Keeper.count.Goals as goal

pub returns-then-no_box : goal.returns-then-no_box
returns-then-no_box c =
    let a = c.args in
    c.count_by_table.ensures
    ∙ ap length (kept_by_table a.self.now.table a.self.now.boxes a.points.format a.points (sym c.no_box.ensures ∙ c.if-no_box.true))

pub returns : goal.returns
returns c = c.count_by_both.ensures
