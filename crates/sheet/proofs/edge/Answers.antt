-- `sheet::edge` meets its contract. Assumes nothing.
use mathlib.Core.Path.{◌∙◌}
use mir.Syntax.{w32}
use mir.ValLaws.{to_z-of_z}
use Rattle.sheet.specs.Sheet.{edge}
use Rattle.sheet.proofs.edge.Goals as goal

pub returns : goal.returns
unfolding edge
returns c = to_z-of_z w32 c.i32_at.result (record { sfits = c.i32_at.type_inv }) ∙ c.i32_at.ensures
