-- `kept_points::Keeper::choose` meets its contract. Assumes nothing.
use Rattle.std.proofs.Common.{sym, ◌∙◌}
use Rattle.release.proofs.kept_points.KeptPointLaws.{kept_by_table}
use Rattle.release.proofs.kept_points.Keeper.choose.Goals as goal

pub returns-then-no_box : goal.returns-then-no_box
returns-then-no_box c =
    let a = c.args in
    let e = c.choose_by_table.ensures in
    let same = kept_by_table a.self.now.table a.self.now.boxes a.block.format a.block (sym c.no_box.ensures ∙ c.if-no_box.true) in
    record { size = e.size; few = e.few; same = e.same ∙ same; places = e.places }

pub returns-else-no_box : goal.returns-else-no_box
returns-else-no_box c = c.choose_by_both.ensures
