-- `inputs::input_verdict` meets its contract. Assumes nothing.
use mathlib.Core.Path.{sym, ◌∙◌, subst}
use lib.Dec.{T}
use borrow.Author.Tests.{not-false}
use Rattle.fields.proofs.CheckLaws.{first_fails, first_clear, all_clear}
use Rattle.lasfile.specs.Inputs.{input_checks}
use Rattle.lasfile.proofs.inputs.input_verdict.Goals.{Else-not-is_read}
use Rattle.lasfile.proofs.inputs.input_verdict.Goals as goal

-- the first test passes
was_read : (c : Else-not-is_read) → T c.args.is_read
was_read c = subst T (sym (not-false c.args.is_read c.if-not-is_read.false-raw)) tt

pub returns-then-not-is_read : goal.returns-then-not-is_read
unfolding input_checks
returns-then-not-is_read c = sym (first_fails 51 _ _ c.if-not-is_read.true)

pub returns-then-length-gt-MOST_BYTES : goal.returns-then-length-gt-MOST_BYTES
unfolding input_checks
returns-then-length-gt-MOST_BYTES c = sym (first_clear _ _ _ (was_read (goal.at.returns-then-length-gt-MOST_BYTES c).Else-not-is_read) ∙ first_fails 50 _ _ c.if-length-gt-MOST_BYTES.true)

pub returns : goal.returns
unfolding input_checks
returns c = sym (all_clear _ (was_read (goal.at.returns c).Else-not-is_read, (c.if-length-gt-MOST_BYTES.false, tt)))
