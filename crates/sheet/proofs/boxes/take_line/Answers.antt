-- `boxes::take_line` meets its contract. Assumes nothing.
use Rattle.std.proofs.Common.{◌≡◌, true, false, sym, ap, ◌∙◌}
use Rattle.sheet.specs.Keeping.{is_box}
use Rattle.sheet.proofs.boxes.NumberLaws.{counts_one}
use Rattle.sheet.specs.Boxes.{box_count, with_box, with_line}
use Rattle.sheet.proofs.boxes.take_line.Goals as goal

pub returns-then-is_box : goal.returns-then-is_box
unfolding with_line
returns-then-is_box c =
    let yes : is_box c.args.line.now ≡ true = sym c.is_box.ensures ∙ c.if-is_box.true in
    rw (yes, c.put_box.ensures)
    (counts_one (with_box c.args.line.now c.args.boxes.now) c.count.result (c.count.ensures.0 ∙ ap box_count c.put_box.ensures) c.count.ensures.1)

pub returns-else-is_box : goal.returns-else-is_box
unfolding with_line
returns-else-is_box c =
    let no : is_box c.args.line.now ≡ false = sym c.is_box.ensures ∙ c.if-is_box.false in
    rw no
