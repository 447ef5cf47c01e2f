-- `kept_points::Keeper::choose_by_both` meets its contract: boxes are asked of what the table keeps. Assumes nothing.
use Rattle.std.proofs.Common.{◌≡◌, arith, ap, ◌∙◌}
use Rattle.fields.specs.Lists.{kept}
use Rattle.fields.proofs.ListLaws.{kept_both}
use Rattle.sheet.specs.Keeping.{in_table}
use Rattle.sheet.specs.Boxes.{in_boxes, keeps_by}
use Rattle.release.specs.Blocks.{records_of}
use Rattle.release.proofs.kept_points.Keeper.choose_by_both.Goals as goal

pub returns : goal.returns
returns c =
    let a = c.args in
    let e = c.choose_by_table.ensures in
    let f = c.leave_in_boxes.ensures in
    let keep = in_boxes a.self.now.boxes in
    let table = a.self.now.table in
    let ps = records_of a.block in
    let both : kept keep (kept (in_table table a.block.format) ps) ≡ kept (keeps_by table a.self.now.boxes a.block.format) ps =
    unfold keeps_by in kept_both keep (in_table table a.block.format) ps in
    record { size = f.size; few = omega (arith, e.few, f.few); same = f.same ∙ ap (kept keep) e.same ∙ both; places = f.places }
