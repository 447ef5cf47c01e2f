-- `boxes::keeps_by` meets its contract. Assumes nothing.
use mathlib.Core.Path.{◌≡◌, sym, ◌∙◌}
use mathlib.Core.Bool.{true, false, and-true}
use lib.Dec.{eqb}
use Rattle.sheet.specs.Keeping.{in_table}
use Rattle.sheet.specs.Boxes.{box_count, in_any, in_boxes, keeps_by}
use Rattle.sheet.proofs.boxes.keeps_by.Goals as goal

-- with no box the table decides
pub returns-then-no_box : goal.returns-then-no_box
unfolding keeps_by in_boxes in_any
returns-then-no_box c =
    let a = c.args in
    let none : eqb (box_count a.boxes.now) 0 ≡ true = sym c.no_box.ensures ∙ c.if-no_box.true in
    rw none (c.in_table.ensures ∙ sym (and-true (in_table a.table.now a.format a.point.now)))

pub returns-then-kept : goal.returns-then-kept
unfolding keeps_by
returns-then-kept c =
    let a = c.args in
    let yes : in_table a.table.now a.format a.point.now ≡ true = sym c.in_table-kept.ensures ∙ c.if-kept.true in
    rw yes c.in_boxes.ensures

pub returns-else-kept : goal.returns-else-kept
unfolding keeps_by
returns-else-kept c =
    let a = c.args in
    let no : in_table a.table.now a.format a.point.now ≡ false = sym c.in_table-kept.ensures ∙ c.if-kept.false in
    rw no
