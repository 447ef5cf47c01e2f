-- `box_index::Axis::cell_of` meets its contract. Assumes nothing.
use Rattle.std.proofs.Common.{rules}
use Rattle.std.proofs.lemmas.Int.{to_z-of_z}
use Rattle.release.specs.BoxIndex.{cell_of}
use Rattle.release.proofs.box_index.Axis.cell_of.Goals as goal

pub returns : goal.returns
unfolding cell_of
returns c = search (rules, to_z-of_z)
