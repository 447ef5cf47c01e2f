-- What the loop of `copier::copy_chosen` keeps is `Pasted`. Assumes nothing.
use Rattle.release.specs.KeptPoints.{chosen_of}
use Rattle.release.proofs.copier.ChosenLaws.{Pasted}
use Rattle.release.proofs.copier.copy_chosen.Given as goal

abbrev pub invariant-loop-at : goal.invariant-loop-at
invariant-loop-at l = Pasted l.block.record_length l.block.bytes.now (chosen_of l.chosen) l.initial.out l.out l.to l.at-index
