-- `boxes::put_box` meets its contract. Assumes nothing.
use mir.Syntax.{w32}
use mir.ValLaws.{to_z-of_z}
use Rattle.sheet.specs.Boxes.{with_box}
use Rattle.sheet.proofs.boxes.put_box.Goals as goal

pub returns : goal.returns
unfolding with_box
returns c =
    rw (c.put.ensures, c.put-2.ensures, c.put-3.ensures)
    (rw (
      to_z-of_z w32 c.edge.result (record { sfits = c.edge.type_inv }),
      to_z-of_z w32 c.edge-2.result (record { sfits = c.edge-2.type_inv }),
      to_z-of_z w32 c.edge-3.result (record { sfits = c.edge-3.type_inv }),
      to_z-of_z w32 c.edge-4.result (record { sfits = c.edge-4.type_inv }),
      to_z-of_z w32 c.edge-5.result (record { sfits = c.edge-5.type_inv }),
      to_z-of_z w32 c.edge-6.result (record { sfits = c.edge-6.type_inv }),
    )
    (rw (c.edge.ensures, c.edge-2.ensures, c.edge-3.ensures, c.edge-4.ensures, c.edge-5.ensures, c.edge-6.ensures, c.count-j.ensures.0)))
