-- No check of a table has the number 0, so a verdict's number is 0 exactly where it passes.
-- Assumes nothing.
use mathlib.Core.Path.{◌≡◌, refl}
use Prim.Native.Nat.{ℕ, zero, suc}
use mathlib.Core.Bool.{Bool, true, false}
use mathlib.Core.List.{List, [], ◌∷◌}
use Rattle.fields.specs.Lists.{kept, cons_if}
use Rattle.fields.specs.Bytes.{Bytes}
use Rattle.fields.specs.Checks.{Check, fail_if, first_failing, fails, then, number_of, Verdict, Passes, Fails}
use Rattle.fields.proofs.CheckLaws.{Without}
use Rattle.lasfile.specs.FileChecks.{file_verdict, mend_verdict}
use Rattle.sheet.specs.Sheet.{line_checks, lines_verdict, sheet_verdict, after_line}
use Rattle.theorems.specs.ZeroWhereAccepted.{is_passing, is_zero}

-- a verdict whose number is 0 exactly where it passes
unfoldable pub Numbered : Verdict → Type 0
Numbered v = is_zero (number_of v) ≡ is_passing v

fail_numbered : (b : Bool) (n : ℕ) (later : Verdict) → is_zero n ≡ false → Numbered later → Numbered (fail_if b n later)
unfolding Numbered fail_if is_passing number_of
fail_numbered true n later h e = h
fail_numbered false n later h e = e

pub first_numbered : (cs : List Check) → Without 0 cs → Numbered (first_failing cs)
unfolding Numbered Without first_failing is_passing number_of is_zero
first_numbered [] h = refl
first_numbered (c ∷ cs) h = fail_numbered (fails c.1) c.0 (first_failing cs) h.0 (first_numbered cs h.1)

pub then_numbered : (v w : Verdict) → Numbered v → Numbered w → Numbered (then v w)
unfolding Numbered then
then_numbered Passes w hv hw = hw
then_numbered (Fails n) w hv hw = hv

pub file_numbered : (file : Bytes) → Numbered (file_verdict file)
unfolding file_verdict Without is_zero
file_numbered file = first_numbered _ (refl, (refl, (refl, (refl, (refl, (refl, (refl, (refl, (refl, (refl, tt))))))))))

pub mend_numbered : (file : Bytes) → Numbered (mend_verdict file)
unfolding mend_verdict kept cons_if Without is_zero
mend_numbered file = first_numbered _ (refl, (refl, (refl, (refl, (refl, (refl, (refl, (refl, (refl, tt)))))))))

line_numbered : (s : Bytes) → Numbered (first_failing (line_checks s))
unfolding line_checks Without is_zero
line_numbered s = first_numbered _ (refl, (refl, (refl, (refl, (refl, tt)))))

lines_numbered : (n : ℕ) (s : Bytes) → Numbered (lines_verdict n s)
unfolding lines_verdict Numbered is_passing number_of is_zero
lines_numbered zero [] = refl
lines_numbered zero (b ∷ bs) = refl
lines_numbered (suc n) [] = refl
lines_numbered (suc n) (b ∷ bs) =
    then_numbered (first_failing (line_checks (b ∷ bs))) (lines_verdict n (after_line (b ∷ bs))) (line_numbered (b ∷ bs)) (lines_numbered n (after_line (b ∷ bs)))

pub sheet_numbered : (sheet : Bytes) → Numbered (sheet_verdict sheet)
unfolding sheet_verdict
sheet_numbered sheet = lines_numbered 64 sheet
