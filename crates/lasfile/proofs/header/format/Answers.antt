-- `header::format` meets its contract. Assumes nothing.
use Rattle.lasfile.specs.HeaderFields.{format}
use Rattle.lasfile.proofs.header.format.Goals as goal

pub returns : goal.returns
unfolding format
returns c = c.number_at.ensures
