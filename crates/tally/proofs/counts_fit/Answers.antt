-- `counts_fit` meets its contract. Assumes nothing.
use Rattle.tally.specs.Tally.{counts_fit}
use Rattle.tally.proofs.counts_fit.Goals as goal

pub returns : goal.returns
unfolding counts_fit
returns c = rw c.bins_fit.ensures
