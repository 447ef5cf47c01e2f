-- A walk over the lines of a sheet, with what is left of it where each begins: its begin, a turn, and its end.
-- Assumes nothing.
use mathlib.Core.Path.{◌≡◌, refl, sym, ap, ◌∙◌}
use Prim.Native.Nat.{ℕ, zero, suc, ◌-◌, ◌≤◌, ◌<◌}
use native.Mathlib.Omega.{arith}
use mathlib.Core.List.{List, [], ◌∷◌}
use lib.ListN.{length}
use Rattle.fields.specs.Checks.{Verdict, Passes, Fails, first_failing}
use Rattle.fields.specs.Bytes.{Bytes}
use Rattle.sheet.specs.Sheet.{after_line, lines_from, lines, line_checks, lines_verdict, sheet_verdict}
use Rattle.sheet.proofs.LineLaws.{lines_from_lem, verdict_from, verdict_here, verdict_next, verdict_full, verdict_end}

-- these lines are left of a sheet, and its verdict is that of the rest
pub record Walk (sheet rest : Bytes) (left : List Bytes) : Type 0 where
  pub more : ℕ
  pub same : left ≡ lines_from more rest
  pub verdict : sheet_verdict sheet ≡ lines_verdict more rest

pub walk_begun : (sheet : Bytes) (left : List Bytes) → left ≡ lines sheet → Walk sheet sheet left
walk_begun sheet left e = record { more = 64; same = e ∙ lines_from_lem sheet; verdict = verdict_from sheet }

-- a line is left
record Turn (n : ℕ) (s l : Bytes) (behind : List Bytes) : Type 0 where
  pub more : 0 < n
  pub some : 0 < length s
  pub others : behind ≡ lines_from (n - 1) (after_line s)

turn : (n : ℕ) (s l : Bytes) (behind : List Bytes) → lines_from n s ≡ l ∷ behind → Turn n s l behind
unfolding lines_from
turn zero s l behind e = cc
turn (suc n) [] l behind e = cc
turn (suc n) (b ∷ bs) l behind e =
    let one : suc n - 1 ≡ n = omega arith in
    record { more = omega arith; some = omega arith; others = rw one cc }

module _ (sheet rest : Bytes) (left : List Bytes) (w : Walk sheet rest left) where
  module _ (l : Bytes) (behind : List Bytes) (split : left ≡ l ∷ behind) where
    at : Turn w.more rest l behind
    at = turn w.more rest l behind (sym w.same ∙ split)

    -- it fails
    pub walk_fails : (v : Verdict) (k : ℕ) → v ≡ first_failing (line_checks rest) → v ≡ Fails k → v ≡ sheet_verdict sheet
    walk_fails v k e f = sym (w.verdict ∙ verdict_here w.more rest v k at.more at.some e f)

    -- it passes
    pub walk_next : (v : Verdict) (r : Bytes) → v ≡ first_failing (line_checks rest) → v ≡ Passes → r ≡ after_line rest → Walk sheet r behind
    walk_next v r e f q =
        record {
          more = w.more - 1;
          same = at.others ∙ ap (lines_from (w.more - 1)) (sym q);
          verdict = w.verdict ∙ verdict_next w.more rest v r at.more at.some e f q;
        }

  -- none is left
  ended : (n : ℕ) (s : Bytes) → lines_from n s ≡ [] → 0 < length s → n ≡ 0
  unfolding lines_from
  ended zero s e h = refl
  ended (suc n) [] e h = absurd (omega arith)
  ended (suc n) (b ∷ bs) e h = cc

  pub walk_passes : length rest ≤ 0 → Passes ≡ sheet_verdict sheet
  walk_passes h = sym (w.verdict ∙ verdict_end w.more rest h)

  pub walk_full : left ≡ [] → 0 < length rest → Fails 24 ≡ sheet_verdict sheet
  walk_full e h = sym (w.verdict ∙ verdict_full w.more rest (ended w.more rest (sym w.same ∙ e) h) h)
