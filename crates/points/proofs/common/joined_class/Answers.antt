-- `common::joined_class` meets its contract. Assumes nothing.
use Rattle.points.specs.Encoding.{joined_class}
use Rattle.points.proofs.common.joined_class.Goals as goal

pub returns : goal.returns
unfolding joined_class
returns c = rw (c.from.ensures, c.from-2.ensures, c.from-3.ensures, c.from-4.ensures)
