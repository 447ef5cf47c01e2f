-- `boxes::in_box` meets its contract. Assumes nothing.
use mathlib.Core.Path.{◌∙◌}
use borrow.Author.Tests.{lt-ltb, le-ltb}
use Rattle.sheet.proofs.boxes.in_box.Goals as goal

-- there is no such box
pub returns-then-j-ge64 : goal.returns-then-j-ge64
returns-then-j-ge64 c = rw (le-ltb c.args.j 64 c.if-j-ge64.true)

pub returns : goal.returns
returns c = c.in_box_at.ensures ∙ rw (lt-ltb c.args.j 64 c.if-j-ge64.false)
