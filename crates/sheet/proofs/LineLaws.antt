-- Laws of a sheet's lines, and of their checks, by one turn: a line, and what follows it.
-- Assumes nothing.
use mathlib.Core.Path.{◌≡◌, refl, sym, ap, ◌∙◌}
use Prim.Native.Nat.{ℕ, zero, suc, ◌-◌, ◌≤◌, ◌<◌}
use native.Mathlib.Nat.{not-suc-le-zero}
use native.Mathlib.Omega.{arith}
use mathlib.Core.List.{[], ◌∷◌, ◌++◌}
use lib.ListN.{length, drop, length-take, take-append-drop}
use lib.Seq.{drop_at}
use Rattle.fields.specs.Checks.{Verdict, Passes, Fails, first_failing, then}
use Rattle.fields.specs.Bytes.{Bytes}
use Rattle.std.proofs.Common.{Option, Some, None}
use Rattle.sheet.specs.declared.Kind.{Kind}
use Rattle.sheet.specs.declared.Kind.TheVariants.{Classes, Record, Region}
use Rattle.sheet.specs.Sheet.{line_length, kind, kind_of, length_of, first_line, after_line, lines_from, lines, line_checks, lines_verdict, sheet_verdict}

pub first_after : (s : Bytes) → first_line s ++ after_line s ≡ s
unfolding first_line after_line
first_after s = take-append-drop (line_length (kind s)) s

pub first_fits : (s : Bytes) → length (first_line s) ≤ length s
unfolding first_line
first_fits s = simp length-take (omega arith)

pub after_first : (s : Bytes) → drop (length (first_line s)) s ≡ after_line s
after_first s =
    ap (drop (length (first_line s))) (sym (first_after s)) ∙ drop_at (first_line s) (after_line s) (length (first_line s)) refl

-- ---- a line's kind and its length

pub known : (k : ℕ) (x : Kind) → kind_of k ≡ Some x → line_length k ≡ length_of x
unfolding line_length
known zero x e = cc
known (suc zero) x e = grind arith
known (suc (suc zero)) x e = grind arith
known (suc (suc (suc zero))) x e = grind arith
known (suc (suc (suc (suc k)))) x e = grind arith

pub unknown : (k : ℕ) → kind_of k ≡ None → line_length k ≡ 0
unfolding line_length
unknown zero e = refl
unknown (suc zero) e = cc
unknown (suc (suc zero)) e = cc
unknown (suc (suc (suc zero))) e = cc
unknown (suc (suc (suc (suc k)))) e = refl

module _ (k : ℕ) (read : Option Kind) (x : Kind) (is : read ≡ kind_of k) (some : read ≡ Some x) where
  pub is_classes : x ≡ Classes → k ≡ 1
  is_classes e = grind arith

  pub is_record : x ≡ Record → k ≡ 2
  is_record e = grind arith

  pub is_region : x ≡ Region → k ≡ 3
  is_region e = grind arith

pub ruleset kinds = (known, unknown)

-- ---- the lines

pub lines_from_lem : (s : Bytes) → lines s ≡ lines_from 64 s
unfolding lines
lines_from_lem s = refl

pub lines_more : (n : ℕ) (s : Bytes) → 0 < n → 0 < length s → lines_from n s ≡ first_line s ∷ lines_from (n - 1) (after_line s)
unfolding lines_from
lines_more zero s h k = absurd (not-suc-le-zero h)
lines_more (suc n) [] h k = absurd (not-suc-le-zero k)
lines_more (suc n) (b ∷ bs) h k = (let e : suc n - 1 ≡ n = omega arith in rw e)

pub lines_full : (n : ℕ) (s : Bytes) → n ≡ 0 → lines_from n s ≡ []
unfolding lines_from
lines_full zero s e = refl
lines_full (suc n) s e = absurd (omega arith)

pub lines_end : (n : ℕ) (s : Bytes) → length s ≤ 0 → lines_from n s ≡ []
unfolding lines_from
lines_end zero s k = refl
lines_end (suc n) [] k = refl
lines_end (suc n) (b ∷ bs) k = absurd (not-suc-le-zero k)

pub length-lines_from : (n : ℕ) (s : Bytes) → length (lines_from n s) ≤ n
unfolding lines_from
length-lines_from zero s = omega arith
length-lines_from (suc n) [] = omega arith
length-lines_from (suc n) (b ∷ bs) = omega (arith, length-lines_from n (after_line (b ∷ bs)))

pub at_most_64 : (s : Bytes) → length (lines s) ≤ 64
at_most_64 s = rw (lines_from_lem s) (length-lines_from 64 s)

-- what the walk over the lines needs of them
pub ruleset turns = (lines_more, lines_full, lines_end)

-- ---- their checks

pub verdict_from : (s : Bytes) → sheet_verdict s ≡ lines_verdict 64 s
unfolding sheet_verdict
verdict_from s = refl

pub verdict_more : (n : ℕ) (s : Bytes) → 0 < n → 0 < length s → lines_verdict n s ≡ then (first_failing (line_checks s)) (lines_verdict (n - 1) (after_line s))
unfolding lines_verdict
verdict_more zero s h k = absurd (not-suc-le-zero h)
verdict_more (suc n) [] h k = absurd (not-suc-le-zero k)
verdict_more (suc n) (b ∷ bs) h k = (let e : suc n - 1 ≡ n = omega arith in rw e)

-- a line fails
pub verdict_here : (n : ℕ) (s : Bytes) (v : Verdict) (k : ℕ) → 0 < n → 0 < length s → v ≡ first_failing (line_checks s) → v ≡ Fails k → lines_verdict n s ≡ v
unfolding then
verdict_here n s v k h j e f = verdict_more n s h j ∙ rw (← e, f)

-- a line passes, and r is behind it
pub verdict_next : (n : ℕ) (s : Bytes) (v : Verdict) (r : Bytes) → 0 < n → 0 < length s → v ≡ first_failing (line_checks s) → v ≡ Passes → r ≡ after_line s
    → lines_verdict n s ≡ lines_verdict (n - 1) r
unfolding then
verdict_next n s v r h j e f q = verdict_more n s h j ∙ rw (← e, f, q)

pub verdict_full : (n : ℕ) (s : Bytes) → n ≡ 0 → 0 < length s → lines_verdict n s ≡ Fails 24
unfolding lines_verdict
verdict_full zero [] e k = absurd (not-suc-le-zero k)
verdict_full zero (b ∷ bs) e k = refl
verdict_full (suc n) s e k = absurd (omega arith)

pub verdict_end : (n : ℕ) (s : Bytes) → length s ≤ 0 → lines_verdict n s ≡ Passes
unfolding lines_verdict
verdict_end zero [] k = refl
verdict_end (suc n) [] k = refl
verdict_end zero (b ∷ bs) k = absurd (not-suc-le-zero k)
verdict_end (suc n) (b ∷ bs) k = absurd (not-suc-le-zero k)
