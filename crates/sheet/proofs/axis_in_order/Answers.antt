-- `sheet::axis_in_order` meets its contract. Assumes nothing.
use mir.Syntax.{w32}
use mir.ValLaws.{to_z-of_z}
use Rattle.sheet.specs.Sheet.{low, high}
use Rattle.sheet.proofs.axis_in_order.Goals as goal

pub returns : goal.returns
unfolding low high
returns c =
    rw (to_z-of_z w32 c.edge-low.result (record { sfits = c.edge-low.type_inv }), to_z-of_z w32 c.edge-high.result (record { sfits = c.edge-high.type_inv }), c.edge-low.ensures, c.edge-high.ensures)
