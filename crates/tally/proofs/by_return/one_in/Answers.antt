-- `by_return::one_in` meets its contract. Assumes nothing.
use Rattle.tally.specs.Bins.{one_in}
use Rattle.tally.proofs.by_return.one_in.Goals as goal

pub returns : goal.returns
unfolding one_in
returns c = rw (c.added.ensures, c.added-2.ensures, c.added-3.ensures, c.added-4.ensures, c.added-5.ensures)
