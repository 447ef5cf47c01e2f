-- `boxes::in_box_at` meets its contract. Assumes nothing.
use Rattle.std.proofs.Common.{rules}
use Rattle.std.proofs.lemmas.Int.{to_z-of_z}
use Rattle.sheet.specs.Sheet.{on_every_axis}
use Rattle.sheet.specs.Boxes.{edges_on, along, in_box_at}
use Rattle.sheet.proofs.boxes.in_box_at.Goals as goal

pub returns : goal.returns
unfolding edges_on along in_box_at on_every_axis
returns c = search (rules, to_z-of_z)
