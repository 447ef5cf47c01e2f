-- `in_header::put_counts` meets its contract. Assumes nothing.
use Rattle.tally.specs.Bins.{bin_numbers}
use Rattle.tally.proofs.in_header.put_counts.Goals as goal

pub returns : goal.returns
unfolding bin_numbers
returns c = c.put_numbers.ensures
