-- A sheet's lines are the whole of it, and at most 64.
-- Assumes nothing.
use mathlib.Core.Path.{◌≡◌, refl, sym, ◌∙◌}
use Prim.Native.Nat.{ℕ, zero, suc, ◌-◌}
use native.Mathlib.Omega.{arith}
use mathlib.Core.List.{[], ◌∷◌, ◌++◌}
use lib.ListN.{replicate}
use Rattle.fields.specs.Checks.{Passes, Fails, first_failing, fail_if, fails, then}
use Rattle.fields.specs.Bytes.{Bytes, part, same, join}
use Rattle.fields.proofs.CheckLaws.{then_passed}
use Rattle.sheet.specs.Sheet.{kind, line_length, lowest, highest, edge, low, high, on_every_axis, after_line, lines_from, lines, box_in_order, in_order, line_checks, lines_verdict, sheet_verdict}
use Rattle.sheet.proofs.LineLaws.{first_after, lines_from_lem, lines_more, lines_end, at_most_64, verdict_from, verdict_more, verdict_full}
use Rattle.theorems.specs.Sheets.{line, SheetLines}

join_lines : (n : ℕ) (s : Bytes) → lines_verdict n s ≡ Passes → join (lines_from n s) ≡ s
unfolding join
join_lines zero [] e = rw (lines_end zero [] (omega arith))
join_lines zero (b ∷ bs) e =
    let full = verdict_full zero (b ∷ bs) refl (omega arith) in
    let z : ◌≡◌ {A = ℕ} 0 1 = cc in
    absurd (omega arith)
join_lines (suc n) [] e = rw (lines_end (suc n) [] (omega arith))
join_lines (suc n) (b ∷ bs) e =
    let s : Bytes = b ∷ bs in
    let k : suc n - 1 ≡ n = omega arith in
    let later = then_passed (first_failing (line_checks s)) (lines_verdict (suc n - 1) (after_line s)) (sym (verdict_more (suc n) s (omega arith) (omega arith)) ∙ e) in
    rw (lines_more (suc n) s (omega arith) (omega arith), k, join_lines n (after_line s) (rw k at later)) (first_after s)

lines_whole : (s : Bytes) → sheet_verdict s ≡ Passes → join (lines s) ≡ s
lines_whole s e = rw (lines_from_lem s) (join_lines 64 s (sym (verdict_from s) ∙ e))

counted : (sheet_verdict (join (replicate 64 line)) ≡ Passes)
    × (sheet_verdict (join (replicate 64 line) ++ 0x4B ∷ []) ≡ Fails 24)
unfolding sheet_verdict lines_verdict after_line line_length kind lowest highest edge low high on_every_axis line_checks box_in_order in_order first_failing fail_if fails then same part join
counted = (refl, refl)

pub lines_are : SheetLines
lines_are = record { whole = lines_whole; at_most_64 = at_most_64; sixty_four = counted.0; sixty_five = counted.1 }
