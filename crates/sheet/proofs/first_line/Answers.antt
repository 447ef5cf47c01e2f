-- `sheet::first_line` meets its contract. Assumes nothing.
use mathlib.Core.Path.{◌∙◌, refl}
use Rattle.fields.specs.Bytes.{part}
use Rattle.sheet.specs.Sheet.{first_line}
use Rattle.sheet.proofs.first_line.Goals as goal

pub returns : goal.returns
unfolding first_line part
returns c = c.part_at.ensures ∙ rw c.line_length.ensures refl
