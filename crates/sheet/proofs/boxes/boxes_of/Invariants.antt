-- What the loop of `boxes::boxes_of` keeps is `Reading`. Assumes nothing.
use Rattle.sheet.specs.Sheet.{lines_from}
use Rattle.sheet.proofs.boxes.ReadLaws.{Reading}
use Rattle.sheet.proofs.boxes.boxes_of.Given as goal

abbrev pub invariant-loop-line : goal.invariant-loop-line
invariant-loop-line l =
    (goal.iterator-loop-line).can_next l.line-iterator × (goal.iterator-loop-line).is_finite l.line-iterator
    × Reading l.fn.sheet (lines_from l.line-iterator.left l.line-iterator.rest.now) l.boxes
