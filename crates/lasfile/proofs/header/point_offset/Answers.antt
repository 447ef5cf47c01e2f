-- `header::point_offset` meets its contract. Assumes nothing.
use Rattle.lasfile.specs.HeaderFields.{point_offset}
use Rattle.lasfile.proofs.header.point_offset.Goals as goal

pub returns : goal.returns
unfolding point_offset
returns c = c.number_at.ensures
