-- `cutting::cutting_list` meets its contract. Assumes nothing.
use Rattle.std.proofs.Common.{rules}
use Rattle.publicpart.specs.Cutting.{Lines}
use Rattle.release.proofs.cutting.ListLaws.{has_room, is_cutting, as_it_was}
use Rattle.release.proofs.cutting.cutting_list.Goals as goal

pub fill_list-requires : goal.fill_list-requires
fill_list-requires c =
    let a = c.args in
    has_room a.sheet.now a.file.now a.list.now (Lines c.in_ok-lines.lines) c.in_ok-lines.ensures

pub returns : goal.returns
returns c =
    let a = c.args in
    is_cutting a.sheet.now a.file.now a.list.now _ (Lines c.in_ok-lines.lines) c.in_ok-lines.ensures c.fill_list.ensures

pub returns-in_err-lines : goal.returns-in_err-lines
returns-in_err-lines c =
    let a = c.args in
    let refused = as_it_was a.sheet.now a.file.now a.list.now _ c.in_err-lines.ensures in
    search (rules, refused)
