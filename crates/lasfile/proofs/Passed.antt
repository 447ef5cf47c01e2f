-- A file passes the file checks exactly if all that they look at is as it should be.
-- Assumes nothing.
use mathlib.Core.Path.{◌≡◌, refl, sym, ap, ◌∙◌}
use mathlib.Core.Bool.{Bool, true, false, not, true≢false}
use mathlib.Core.List.{List, [], ◌∷◌, ◌++◌}
use Prim.Native.Nat.{ℕ, ◌+◌, ◌*◌, ◌^◌, ◌≤◌, ◌<◌}
use native.Mathlib.Nat.{mul-le-mul}
use native.Mathlib.Omega.{arith}
use borrow.Author.Tests.{eqb-true, eq-eqb, not-false}
use lib.Dec.{T, eqb}
use lib.ListN.{length, take, drop}
use Rattle.fields.specs.Lists.{kept, cons_if}
use Rattle.fields.specs.Bytes.{Bytes}
use Rattle.fields.specs.Checks.{Check, Clear, AllClear, fails, fail_if, first_failing, number_of, Verdict, Passes, Fails}
use Rattle.fields.proofs.CheckLaws.{none_fails, all_clear, then_passes, then_fails, in_parts, Without, never_given}
use Rattle.scaling.specs.Scaling.{scaling_of, good_scaling}
use Rattle.lasfile.specs.HeaderFields.{header_size, point_offset, record_count, record_length, point_count}
use Rattle.lasfile.specs.Records.{walk_end}
use Rattle.lasfile.specs.FileChecks.{records_end, file_checks, file_verdict, without, mend_checks, mend_verdict}
use Rattle.lasfile.specs.Passed.{PassedWith, Passed}

-- the place after the counted records, by the walk
pub records_end_lem : (s : Bytes) → records_end s ≡ walk_end 2 (record_count s) (header_size s) s
unfolding records_end
records_end_lem s = refl

-- a table that is clear is clear in both its parts
split : (cs ds : List Check) → AllClear (cs ++ ds) → AllClear cs × AllClear ds
split [] ds h = (tt, h)
split (c ∷ cs) ds h = let k : AllClear cs × AllClear ds = split cs ds h.1 in ((h.0, k.0), k.1)

-- what 1 to 8 look at, and the rest
facts : (points : ℕ) (s : Bytes) → AllClear (take 8 (file_checks s)) → point_offset s + points * record_length s ≤ length s → T (good_scaling (scaling_of s))
    → PassedWith points s
facts points s h pointed scaled =
    record {
      whole = h.0;
      signed = h.1.0;
      versioned = h.1.1.0;
      header_low = h.1.1.1.0.0;
      header_high = h.1.1.1.0.1;
      formatted = h.1.1.1.1.0;
      record_low = h.1.1.1.1.1.0;
      offset_low = h.1.1.1.1.1.1.0.0;
      offset_high = h.1.1.1.1.1.1.0.1;
      walked = h.1.1.1.1.1.1.1.0;
      pointed = pointed;
      scaled = scaled;
    }

pub passed : (s : Bytes) → file_verdict s ≡ Passes → Passed s
unfolding file_verdict
passed s e =
    let h = split (take 8 (file_checks s)) (drop 8 (file_checks s)) (none_fails (file_checks s) e) in
    facts (point_count s) s h.0 h.1.0 h.1.1.0

pub passes : (s : Bytes) → Passed s → file_verdict s ≡ Passes
unfolding file_verdict
passes s p =
    all_clear (file_checks s) (
      p.whole,
      (
        p.signed,
        (
          p.versioned,
          (
            (p.header_low, p.header_high),
            (p.formatted, (p.record_low, ((p.offset_low, p.offset_high), (p.walked, (p.pointed, (p.scaled, tt)))))),
          ),
        ),
      ),
    )

-- ---- a file that can be mended

-- it is as it should be, but for its points
pub mendable : (s : Bytes) → mend_verdict s ≡ Passes → PassedWith 0 s
unfolding mend_verdict kept cons_if
mendable s e =
    let h = split (take 8 (mend_checks s)) (drop 8 (mend_checks s)) (none_fails (mend_checks s) e) in
    let ends : point_offset s ≤ length s = h.0.1.1.1.1.1.1.0.1 in
    facts 0 s h.0 (omega arith) h.1.0

clear_cons_if : (b : Bool) (c : Check) (cs : List Check) → Clear c.1 → AllClear cs → AllClear (cons_if b c cs)
unfolding cons_if
clear_cons_if true c cs h hs = (h, hs)
clear_cons_if false c cs h hs = hs

-- a table that is clear is clear without one number
clear_without : (n : ℕ) (cs : List Check) → AllClear cs → AllClear (without n cs)
unfolding kept
clear_without n [] h = tt
clear_without n (c ∷ cs) h = clear_cons_if (not (eqb c.0 n)) c (without n cs) h.0 (clear_without n cs h.1)

-- a file that passes can be mended
pub passing_mends : (s : Bytes) → file_verdict s ≡ Passes → mend_verdict s ≡ Passes
unfolding file_verdict mend_verdict
passing_mends s e = all_clear (mend_checks s) (clear_without 9 (file_checks s) (none_fails (file_checks s) e))

-- the first check that fails is the first of the others, unless it is the one left out
without_step : (m n : ℕ) → (n ≡ m → ⊥) → (c : Check) (cs : List Check) (b k : Bool) → fails c.1 ≡ b → not (eqb c.0 m) ≡ k
    → fail_if b c.0 (first_failing cs) ≡ Fails n → (first_failing cs ≡ Fails n → first_failing (without m cs) ≡ Fails n)
    → first_failing (cons_if k c (without m cs)) ≡ Fails n
unfolding cons_if first_failing fail_if number_of
without_step m n other c cs true true f g e again = rw f e
without_step m n other c cs true false f g e again =
    let same : c.0 ≡ n = ap number_of e in
    absurd (other (sym same ∙ eqb-true c.0 m (not-false (eqb c.0 m) g)))
without_step m n other c cs false true f g e again = rw f (again e)
without_step m n other c cs false false f g e again = again e

fails_without : (m n : ℕ) → (n ≡ m → ⊥) → (cs : List Check) → first_failing cs ≡ Fails n → first_failing (without m cs) ≡ Fails n
unfolding kept first_failing
fails_without m n other [] e = e
fails_without m n other (c ∷ cs) e = without_step m n other c cs (fails c.1) (not (eqb c.0 m)) refl refl e (fails_without m n other cs)

pub refused_alike : (s : Bytes) (n : ℕ) → (n ≡ 9 → ⊥) → file_verdict s ≡ Fails n → mend_verdict s ≡ Fails n
unfolding file_verdict mend_verdict
refused_alike s n other e = fails_without 9 n other (file_checks s) e

front_without_9 : (s : Bytes) → Without 9 (take 8 (file_checks s))
unfolding Without
front_without_9 s = (refl, (refl, (refl, (refl, (refl, (refl, (refl, (refl, tt))))))))

-- where 9 is the first of all, 10 is left
pub refused_with_9 : (s : Bytes) → file_verdict s ≡ Fails 9 → mend_verdict s ≡ first_failing (drop 9 (file_checks s))
unfolding file_verdict mend_verdict kept cons_if number_of
refused_with_9 s e = go (first_failing (take 8 (file_checks s))) refl
  where
    go : (v : Verdict) → first_failing (take 8 (file_checks s)) ≡ v → first_failing (mend_checks s) ≡ first_failing (drop 9 (file_checks s))
    go Passes h = sym (in_parts 8 (mend_checks s)) ∙ then_passes _ _ h
    go (Fails n) h =
        let all : Fails n ≡ Fails 9 = sym (then_fails _ _ n h) ∙ in_parts 8 (file_checks s) ∙ e in
        let nine : n ≡ 9 = ap number_of all in
        absurd (true≢false (sym (eq-eqb n 9 nine) ∙ never_given 9 (take 8 (file_checks s)) (front_without_9 s) n h))

-- ---- sizes

-- a count of 4 bytes times a length of 2
pub product_small : (n w : ℕ) → n < 2 ^ 32 → w < 2 ^ 16 → n * w ≤ 2 ^ 48
product_small n w h k = mul-le-mul {n₁ = n} {m₁ = w} {n₂ = 2 ^ 32} {m₂ = 2 ^ 16} (omega arith) (omega arith)
