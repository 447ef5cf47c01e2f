-- `by_return::bins_fit` meets its contract. Assumes nothing.
use mathlib.Core.Path.{refl}
use Rattle.tally.specs.Bins.{bins_fit}
use Rattle.tally.proofs.by_return.bins_fit.Goals as goal

pub returns : goal.returns
unfolding bins_fit
returns c = refl
