-- `text::is_over` meets its contract. Assumes nothing.
use mathlib.Core.Path.{sym, ◌∙◌}
use native.Mathlib.Omega.{arith}
use lib.ListN.{get_or-eq_default}
use Rattle.fields.proofs.text.SameLaws.{none_left, more_left, some_left}
use Rattle.fields.proofs.text.is_over.Goals as goal

pub returns-then-next-eq0 : goal.returns-then-next-eq0
returns-then-next-eq0 c =
    let t = c.part_at-rest.result.now in
    let l = c.loop-next in
    sym (l.invariant ∙ none_left l.next-index t c.if-next-eq0.true)

pub returns-then-next-ne32 : goal.returns-then-next-ne32
returns-then-next-ne32 c =
    let t = c.part_at-rest.result.now in
    let l = c.loop-next in
    sym (l.invariant ∙ some_left l.next-index t c.if-next-eq0.false c.if-next-ne32.true)

pub loop-next-preserved : goal.loop-next-preserved
loop-next-preserved c =
    let t = c.part_at-rest.result.now in
    let l = c.loop-next in
    l.invariant ∙ more_left l.next-index t c.if-next-ne32.false

pub returns : goal.returns
returns c =
    let t = c.part_at-rest.result.now in
    let l = c.loop-next in
    sym (l.invariant ∙ none_left l.next-index t (get_or-eq_default t 0 {n = l.next-index} (omega arith)))
