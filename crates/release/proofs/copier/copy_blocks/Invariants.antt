-- What the loop of `copier::copy_blocks` keeps is `Blocked`. Assumes nothing.
use Rattle.sheet.specs.Boxes.{keeps_by}
use Rattle.release.proofs.copier.BlockLaws.{Blocked}
use Rattle.release.proofs.copier.copy_blocks.Given as goal

abbrev pub invariant-loop-block : goal.invariant-loop-block
invariant-loop-block l =
    (goal.iterator-loop-block).can_next l.block-iterator × (goal.iterator-loop-block).is_finite l.block-iterator
    × Blocked (keeps_by l.keeper.table l.keeper.boxes l.points.format) l.points l.block-iterator.rest l.initial.out l.out l.to l.t
