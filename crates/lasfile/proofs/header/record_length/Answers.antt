-- `header::record_length` meets its contract. Assumes nothing.
use Rattle.lasfile.specs.HeaderFields.{record_length}
use Rattle.lasfile.proofs.header.record_length.Goals as goal

pub returns : goal.returns
unfolding record_length
returns c = c.number_at.ensures
