-- `header::point_count` meets its contract. Assumes nothing.
use Rattle.lasfile.specs.HeaderFields.{point_count}
use Rattle.lasfile.proofs.header.point_count.Goals as goal

pub returns : goal.returns
unfolding point_count
returns c = c.number_at.ensures
