-- `header::header_size` meets its contract. Assumes nothing.
use Rattle.lasfile.specs.HeaderFields.{header_size}
use Rattle.lasfile.proofs.header.header_size.Goals as goal

pub returns : goal.returns
unfolding header_size
returns c = c.number_at.ensures
