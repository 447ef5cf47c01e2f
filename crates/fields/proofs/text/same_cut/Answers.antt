-- `text::same_cut` meets its contract. Assumes nothing.
use mathlib.Core.Path.{◌≡◌, refl, sym, ◌∙◌}
use mathlib.Core.Bool.{true, false}
use mathlib.Core.List.{[]}
use native.Mathlib.Omega.{arith}
use lib.ListN.{length, drop, get_or-eq_default}
use Rattle.fields.specs.Bytes.{same}
use Rattle.fields.specs.Text.{cut}
use Rattle.fields.proofs.text.SameLaws.{none_left, alike_goes, alike_stops, alike_ends}
use Rattle.fields.proofs.text.same_cut.Goals as goal

pub returns-then-is_over : goal.returns-then-is_over
returns-then-is_over c =
    let a = c.args in
    let l = c.loop-i in
    let ends = alike_ends l.i a.a.now a.b.now c.u8_at.ensures c.if-one-u8_at.true in
    let one : same (cut (drop l.i a.a.now)) [] ≡ true = sym c.is_over.ensures ∙ c.if-is_over.true in
    c.is_over-then-is_over.ensures ∙ sym (l.invariant ∙ ends ∙ rw one refl)

pub returns-else-is_over : goal.returns-else-is_over
returns-else-is_over c =
    let a = c.args in
    let l = c.loop-i in
    let ends = alike_ends l.i a.a.now a.b.now c.u8_at.ensures c.if-one-u8_at.true in
    let one : same (cut (drop l.i a.a.now)) [] ≡ false = sym c.is_over.ensures ∙ c.if-is_over.false in
    c.if-is_over.false ∙ sym (l.invariant ∙ ends ∙ rw one refl)

pub returns-then-one-eq0 : goal.returns-then-one-eq0
returns-then-one-eq0 c =
    let a = c.args in
    let l = c.loop-i in
    let zero = sym (c.if-one-u8_at.false ∙ c.u8_at.ensures) ∙ c.if-one-eq0.true in
    sym (l.invariant ∙ alike_stops l.i a.a.now a.b.now c.if-one-eq0.true ∙ none_left l.i a.b.now zero)

pub loop-i-preserved : goal.loop-i-preserved
loop-i-preserved c =
    let a = c.args in
    let l = c.loop-i in
    l.invariant ∙ alike_goes l.i a.a.now a.b.now (c.if-one-u8_at.false ∙ c.u8_at.ensures) c.if-one-eq0.false

pub returns : goal.returns
returns c =
    let a = c.args in
    let l = c.loop-i in
    let over = get_or-eq_default a.a.now 0 {n = l.i} (omega arith) in
    let all : l.i ≡ length a.a.now = omega arith in
    c.is_over-2.ensures ∙ rw (← all) (sym (l.invariant ∙ alike_stops l.i a.a.now a.b.now over))
