-- `in_header::put_bounds` meets its contract. Assumes nothing.
use Rattle.publicpart.specs.Bounds.{bound_numbers}
use Rattle.tally.proofs.in_header.put_bounds.Goals as goal

pub returns : goal.returns
unfolding bound_numbers
returns c = c.put_numbers.ensures
