-- `boxes::Edges::holds` meets its contract. Assumes nothing.
use Rattle.std.proofs.Common.{rules}
use Rattle.std.proofs.lemmas.Int.{to_z-of_z}
use Rattle.sheet.specs.Keeping.{in_range}
use Rattle.sheet.specs.Boxes.{in_axis}
use Rattle.sheet.proofs.boxes.Edges.holds.Goals as goal

pub returns : goal.returns
unfolding in_axis in_range
returns c = search (rules, to_z-of_z)
