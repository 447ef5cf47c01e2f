-- `tally::with_point` meets its contract. Assumes nothing.
use Rattle.tally.specs.Tally.{tally_with}
use Rattle.tally.proofs.with_point.Goals as goal

pub returns : goal.returns
unfolding tally_with
returns c = rw (c.binned.ensures, c.extended.ensures)
