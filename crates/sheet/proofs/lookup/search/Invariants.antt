-- What the loop of `lookup::search` keeps: `looked` lines were looked at, and none of them passes. Assumes nothing.
use Rattle.sheet.specs.Sheet.{lines, lines_from}
use Rattle.sheet.proofs.lookup.SearchLaws.{NoneYet}
use Rattle.sheet.proofs.lookup.search.Given as goal

abbrev pub invariant-loop-line : goal.invariant-loop-line
invariant-loop-line g l =
    (goal.iterator-loop-line g).can_next l.line-iterator × (goal.iterator-loop-line g).is_finite l.line-iterator
    × NoneYet (g.S.Sought.is_kept_by l.sought) (lines l.fn.sheet) l.looked (lines_from l.line-iterator.left l.line-iterator.rest.now)
