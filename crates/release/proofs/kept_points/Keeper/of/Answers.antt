-- `kept_points::Keeper::of` meets its contract: table and boxes are the sheet's. Assumes nothing.
use Rattle.release.proofs.kept_points.Keeper.of.Goals as goal

pub returns-clause-table : goal.returns-clause-table
returns-clause-table c = rw c.format.ensures.0 at c.class_table-table.ensures

pub returns-clause-boxes : goal.returns-clause-boxes
returns-clause-boxes c = c.boxes_of-boxes.ensures
