-- `sheet::box_in_order` meets its contract. Assumes nothing.
use Rattle.sheet.specs.Sheet.{on_every_axis, box_in_order}
use Rattle.sheet.proofs.box_in_order.Goals as goal

pub returns : goal.returns
unfolding box_in_order on_every_axis
returns c = rw (c.axis_in_order.ensures, c.axis_in_order-2.ensures, c.axis_in_order-3.ensures)
