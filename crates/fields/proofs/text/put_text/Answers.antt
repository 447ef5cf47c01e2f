-- `text::put_text` meets its contract. Assumes nothing.
use mathlib.Core.Path.{◌≡◌, sym, ap, ◌∙◌}
use Prim.Native.Nat.{ℕ, ◌+◌, ◌-◌, ◌≤◌}
use native.Mathlib.Omega.{arith}
use lib.ListN.{length}
use lib.Seq.{sets}
use Rattle.fields.specs.Bytes.{Bytes, part, zeros}
use Rattle.fields.specs.Text.{cut, padded}
use Rattle.fields.proofs.ByteLaws.{length-part-le}
use Rattle.fields.proofs.StoreLaws.{sets_out, sets-append}
use Rattle.fields.proofs.TextLaws.{cut_front, length_cut}
use Rattle.fields.proofs.text.put_text.Goals.{After-copy, After-cut_length-n}
use Rattle.fields.proofs.text.put_text.Goals as goal

-- the cut, and zeros behind it
in_field : (d : Bytes) (at w : ℕ) (t : Bytes)
    → sets (sets d at (part 0 (length (cut t)) t)) (at + length (cut t)) (zeros (w - length (cut t))) ≡ sets d at (padded w (cut t))
unfolding padded
in_field d at w t = rw (cut_front t) (sym (sets-append d at (cut t) (zeros (w - length (cut t)))))

-- a field's text is no longer than the field
fits : (at w n : ℕ) (s t : Bytes) → t ≡ part at w s → n ≡ length (cut t) → n ≤ w
fits at w n s t e h = omega (arith, length_cut t, rw (← e) at (length-part-le at w s))

pub returns-then-dst-at : goal.returns-then-dst-at
returns-then-dst-at c =
    let a = c.args in
    sym (sets_out a.dst.now a.at (padded a.width (cut (part a.from a.width a.source.now))) (omega arith))

pub overflow_add-at : goal.overflow_add-at
overflow_add-at c =
    omega (arith, c.cut_length-n.ensures, length_cut c.part_at-text.result.now)

pub overflow_sub-width : goal.overflow_sub-width
overflow_sub-width c =
    let a = c.args in
    fits a.from a.width _ a.source.now _ c.part_at-text.ensures c.cut_length-n.ensures

pub returns : goal.returns
returns c =
    let a = c.args in
    let text = c.part_at-text.result.now in
    c.zero.ensures
    ∙ rw (c.copy.ensures ∙ ap (sets a.dst.now a.at) c.part_at.ensures, c.cut_length-n.ensures)
    (in_field a.dst.now a.at a.width text ∙ ap (λ (t : Bytes). sets a.dst.now a.at (padded a.width (cut t))) c.part_at-text.ensures)
