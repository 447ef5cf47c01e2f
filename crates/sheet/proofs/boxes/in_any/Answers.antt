-- `boxes::in_any` meets its contract. Assumes nothing.
use Rattle.sheet.specs.Boxes.{in_any}
use Rattle.sheet.proofs.boxes.in_any.Goals as goal

pub returns : goal.returns
unfolding in_any
returns c = rw (c.in_first.ensures, c.count-n.ensures.0)

pub in_first-requires : goal.in_first-requires
in_first-requires c = c.count-n.ensures.1
