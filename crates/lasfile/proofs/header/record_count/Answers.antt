-- `header::record_count` meets its contract. Assumes nothing.
use Rattle.lasfile.specs.HeaderFields.{record_count}
use Rattle.lasfile.proofs.header.record_count.Goals as goal

pub returns : goal.returns
unfolding record_count
returns c = c.number_at.ensures
