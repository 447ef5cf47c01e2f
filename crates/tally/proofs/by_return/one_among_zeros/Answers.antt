-- `by_return::one_among_zeros` meets its contract. Assumes nothing.
use mathlib.Core.Path.{refl}
use Rattle.tally.specs.Bins.{one_among_zeros}
use Rattle.tally.proofs.by_return.one_among_zeros.Goals as goal

pub returns : goal.returns
unfolding one_among_zeros
returns c = refl
