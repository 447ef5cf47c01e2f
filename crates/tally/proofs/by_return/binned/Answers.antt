-- `by_return::binned` meets its contract. Assumes nothing.
use mathlib.Core.Path.{refl}
use Rattle.tally.specs.Bins.{bins_with}
use Rattle.tally.proofs.by_return.binned.Goals as goal

pub returns : goal.returns
unfolding bins_with
returns c = refl
