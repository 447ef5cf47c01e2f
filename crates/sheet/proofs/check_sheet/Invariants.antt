-- What the loop of `sheet::check_sheet` keeps: the lines that are left are those of the rest, and the sheet's verdict
-- is that of the rest. Assumes nothing.
use Rattle.sheet.specs.Sheet.{lines_from}
use Rattle.sheet.proofs.WalkLaws.{Walk}
use Rattle.sheet.proofs.check_sheet.Given as goal

abbrev pub invariant-loop : goal.invariant-loop
invariant-loop l =
    (goal.iterator-loop).can_next l.iterator' × (goal.iterator-loop).is_finite l.iterator'
    × Walk l.sheet l.rest (lines_from l.iterator'.left l.iterator'.rest.now)
