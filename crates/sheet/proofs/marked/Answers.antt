-- `sheet::marked` meets its contract. Assumes nothing.
use mathlib.Core.Path.{◌∙◌}
use Rattle.sheet.proofs.marked.Goals as goal

pub returns : goal.returns
returns c = c.same_bytes.ensures ∙ rw c.part_at.ensures
