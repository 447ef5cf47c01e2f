-- `sheet::check_line` meets its contract. Assumes nothing.
use mathlib.Core.Path.{◌≡◌, sym, ◌∙◌}
use lib.ListN.{drop}
use Rattle.fields.specs.Checks.{first_failing}
use Rattle.fields.proofs.ByteLaws.{same→eq}
use Rattle.fields.proofs.CheckLaws.{first_fails, first_clear}
use Rattle.sheet.specs.Sheet.{line_checks}
use Rattle.sheet.proofs.check_line.Goals.{Else-rest-lt3}
use Rattle.sheet.proofs.check_line.Goals as goal

-- at least 3 bytes are left: the verdict is that of the checks behind the first
begun : (c : Else-rest-lt3) → first_failing (line_checks c.args.rest.now) ≡ first_failing (drop 1 (line_checks c.args.rest.now))
unfolding line_checks
begun c = first_clear 22 _ _ c.if-rest-lt3.false

pub returns-then-rest-lt3 : goal.returns-then-rest-lt3
unfolding line_checks
returns-then-rest-lt3 c = sym (first_fails 22 _ _ c.if-rest-lt3.true)

pub returns-then-marked : goal.returns-then-marked
unfolding line_checks
returns-then-marked c = c.check_body.ensures ∙ sym (begun (goal.at.returns-then-marked c).Else-rest-lt3 ∙ first_clear 20 _ _ (same→eq _ _ (rw (sym c.marked.ensures ∙ c.if-marked.true) tt)))

pub returns-else-marked : goal.returns-else-marked
unfolding line_checks
returns-else-marked c = sym (begun (goal.at.returns-else-marked c).Else-rest-lt3 ∙ first_fails 20 _ _ (sym c.marked.ensures ∙ c.if-marked.false))
