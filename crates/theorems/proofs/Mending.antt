-- The mender changes the twelve fields alone and marks those that it changed, a mended file is right about its points
-- and stays as it is, and mending does not change what a release gives, unless the file is one that is refused with 9.
-- Assumes nothing.
use mathlib.Core.Path.{◌≡◌, refl, sym, ap, ◌∙◌}
use mathlib.Core.Logic.{◌↔◌, ◌⊎◌, inl, inr}
use Prim.Native.Nat.{ℕ, zero, suc, ◌+◌, ◌-◌, ◌*◌, ◌/◌, ◌≤◌, ◌<◌, min}
use native.Mathlib.Nat.{not-suc-le-zero}
use native.Mathlib.Omega.{arith}
use mathlib.Core.Bool.{Bool, true, false, not, true≢false}
use mathlib.Core.List.{List, [], ◌∷◌, ◌++◌, map}
use borrow.Author.Tests.{eq-eqb}
use lib.Dec.{lit<}
use lib.ListN.{length, drop, get_or, replicate}
use Rattle.fields.specs.Lists.{All, kept, cons_if}
use Rattle.fields.specs.Bytes.{Bytes, AllBytes, part, num, same, pieces, numbers_bytes}
use Rattle.fields.specs.Checks.{number_of, Verdict, Passes, Fails}
use Rattle.fields.proofs.ByteLaws.{num-part_one, same→eq, same_self, mul-suc}
use Rattle.fields.proofs.CheckLaws.{Without, never_given}
use Rattle.fields.proofs.StoreLaws.{Apart}
use Rattle.lasfile.specs.FileChecks.{file_verdict, mend_checks, mend_verdict}
use Rattle.lasfile.specs.HeaderFields.{point_offset, format, record_length, point_count}
use Rattle.lasfile.proofs.header.FieldLaws.{count_low}
use Rattle.lasfile.specs.Passed.{PassedWith, Passed}
use Rattle.lasfile.proofs.Passed.{mendable, passed, passes, passing_mends, refused_alike}
use Rattle.scaling.specs.Scaling.{scaling_of}
use Rattle.publicpart.specs.Bounds.{bins, bounds}
use Rattle.publicpart.specs.Public.{contents}
use Rattle.publicpart.specs.Release.{release}
use Rattle.publicpart.proofs.PublicLaws.{contents_points}
use Rattle.publicpart.proofs.AnswerLaws.{release_alike}
use Rattle.editor.specs.Mend.{Field, mended_fields, changed, marks, mended, mended_count, whole_records, mended_points, mend_by, mend}
use Rattle.editor.proofs.MendLaws.{length-mended, outside, count_stated, count_exact, length_points, points_are, bins_in, bounds_in, mend_accepted}
use Rattle.editor.proofs.MendedFile.{format_stays, scaling_stays, carried_stays, walk_stays, count_is, points_are_its, file_passes, mended_again}
use Rattle.capi.specs.Answers.{mended_numbers}
use Rattle.capi.specs.Interface.{las_mend}
use Rattle.theorems.specs.Mending.{InNoField, field_in, Mends, Untouched, Marked, NeverNine, RightAboutPoints, MendedAgain, KeepsRelease}
use Rattle.theorems.proofs.TotalsBack.{bounded_in, zero_in, binned_in}

-- ---- what a mending gives, by its verdict

given_verdict : (s : Bytes) → (mend s).0.verdict ≡ mend_verdict s
unfolding mend
given_verdict s = by (mend_verdict s)
  where
    by : (v : Verdict) → (mend_by v s).0.verdict ≡ v
    by Passes = unfold mend_by in refl
    by (Fails n) = unfold mend_by in refl

given_file : (s : Bytes) → mend_verdict s ≡ Passes → (mend s).1 ≡ mended s
unfolding mend mend_by
given_file s e = rw e

given_refused : (s : Bytes) (n : ℕ) → mend_verdict s ≡ Fails n → (mend s).1 ≡ s
unfolding mend mend_by
given_refused s n e = rw e

-- a fact of every mending: it holds where nothing changes, and of the mended file
of_file : (s : Bytes) (P : Bytes → Type 0) → P s → P (mended s) → P (mend s).1
unfolding mend
of_file s P same new = by (mend_verdict s)
  where
    by : (v : Verdict) → P (mend_by v s).1
    by Passes = unfold mend_by in new
    by (Fails n) = unfold mend_by in same

-- ---- outside the twelve fields

-- n fields of w bytes, back to back from a place on
abbrev fields_from : ℕ → ℕ → ℕ → List Field
fields_from zero w at = []
fields_from (suc n) w at = (at, w) ∷ fields_from n w (at + w)

abbrev Misses : ℕ → Field → Type 0
Misses i f = (i < f.0) ⊎ (f.0 + f.1 ≤ i)

-- what is in none of them lies before them or behind
misses_run : (i n w at : ℕ) → 0 < w → All (Misses i) (fields_from (suc n) w at) → Apart i 1 at (suc n * w)
misses_run i zero w at wide h = go h.0
  where
    go : Misses i (at, w) → Apart i 1 at (1 * w)
    go (inl k) = inl (omega arith)
    go (inr k) = inr (omega arith)
misses_run i (suc n) w at wide h = go h.0 (misses_run i n w (at + w) wide h.1)
  where
    go : Misses i (at, w) → Apart i 1 (at + w) (suc n * w) → Apart i 1 at (suc (suc n) * w)
    go (inl j) k = inl (omega arith)
    go (inr j) (inl k) = absurd (omega arith)
    go (inr j) (inr k) = inr (omega (arith, mul-suc (suc n) w))

split_misses : (i : ℕ) (fs gs : List Field) → All (Misses i) (fs ++ gs) → All (Misses i) fs × All (Misses i) gs
split_misses i [] gs h = (tt, h)
split_misses i (f ∷ fs) gs h = let k = split_misses i fs gs h.1 in ((h.0, k.0), k.1)

byte_stays : (s : Bytes) (i : ℕ) → InNoField i → get_or (mended s) i 0 ≡ get_or s i 0
unfolding InNoField
byte_stays s i h =
    let k = split_misses i (fields_from 6 4 107) (fields_from 6 8 179) h in
    sym (num-part_one i (mended s))
    ∙ ap num (outside s i 1 (misses_run i 5 4 107 (lit< tt) k.0) (misses_run i 5 8 179 (lit< tt) k.1))
    ∙ num-part_one i s

pub untouched : Untouched
untouched =
    record {
      length_stays = λ s. of_file s (λ t. length t ≡ length s) refl (length-mended s);
      bytes_stay = λ s i h. of_file s (λ t. get_or t i 0 ≡ get_or s i 0) refl (byte_stays s i h);
    }

-- ---- marks

-- nothing is marked where nothing changed
no_marks : (s : Bytes) → marks s s ≡ replicate 12 false
unfolding marks changed
no_marks s = simp same_self

given_marks : (s : Bytes) → (mend s).0.marks ≡ marks s (mend s).1
unfolding mend
given_marks s = by (mend_verdict s)
  where
    by : (v : Verdict) → (mend_by v s).0.marks ≡ marks s (mend_by v s).1
    by Passes = unfold mend_by in refl
    by (Fails n) = unfold mend_by in sym (no_marks s)

get_d_map : (f : Field → Bool) (fs : List Field) (i : ℕ) → i < length fs → get_or (map f fs) i false ≡ f (get_or fs i (0, 0))
get_d_map f [] i h = absurd (not-suc-le-zero h)
get_d_map f (x ∷ fs) zero h = refl
get_d_map f (x ∷ fs) (suc i) h = get_d_map f fs i (omega arith)

differ_exactly : (x y : Bytes) (b : Bool) → same x y ≡ b → (not b ≡ true) ↔ (y ≡ x → ⊥)
differ_exactly x y true e = (λ k. absurd (true≢false (sym k)), λ k. absurd (k (sym (same→eq x y (rw e tt)))))
differ_exactly x y false e = (λ k p. true≢false (sym (same_self x) ∙ ap (same x) (sym p) ∙ e), λ k. refl)

changed_exactly : (s t : Bytes) (f : Field) → (changed s t f ≡ true) ↔ (part f.0 f.1 t ≡ part f.0 f.1 s → ⊥)
unfolding changed
changed_exactly s t f = differ_exactly (part f.0 f.1 s) (part f.0 f.1 t) (same (part f.0 f.1 s) (part f.0 f.1 t)) refl

mark_is : (s : Bytes) (i : ℕ) → i < 12 → get_or (mend s).0.marks i false ≡ changed s (mend s).1 (get_or mended_fields i (0, 0))
unfolding marks
mark_is s i h = ap (λ (l : List Bool). get_or l i false) (given_marks s) ∙ get_d_map (changed s (mend s).1) mended_fields i h

mark_exactly : (s : Bytes) (i : ℕ) → i < 12 → (get_or (mend s).0.marks i false ≡ true) ↔ (field_in i (mend s).1 ≡ field_in i s → ⊥)
unfolding field_in
mark_exactly s i h = rw (mark_is s i h) (changed_exactly s (mend s).1 (get_or mended_fields i (0, 0)))

length-marks : (s t : Bytes) → length (marks s t) ≡ 12
unfolding marks
length-marks s t = refl

pub marked : Marked
marked =
    record {
      twelve = λ s. rw (given_marks s) (length-marks s (mend s).1);
      exactly = mark_exactly;
    }

-- ---- 9

-- it is in none of the mender's checks
without_9 : (s : Bytes) → Without 9 (mend_checks s)
unfolding Without kept cons_if
without_9 s = (refl, (refl, (refl, (refl, (refl, (refl, (refl, (refl, (refl, tt)))))))))

not_9 : (s : Bytes) (v : Verdict) → mend_verdict s ≡ v → number_of v ≡ 9 → ⊥
unfolding number_of mend_verdict
not_9 s Passes e h = omega arith
not_9 s (Fails n) e h = true≢false (sym (eq-eqb n 9 h) ∙ never_given 9 (mend_checks s) (without_9 s) n e)

pub never_nine : NeverNine
unfolding las_mend mended_numbers
never_nine = record { never_9 = λ s e. not_9 s (mend_verdict s) refl (ap number_of (sym (given_verdict s)) ∙ e) }

-- ---- a mended file

module _ (s : Bytes) (h : Mends s) where
  passing : mend_verdict s ≡ Passes
  passing = sym (given_verdict s) ∙ h.accepted

  good : PassedWith 0 s
  good = mendable s passing

  file : (mend s).1 ≡ mended s
  file = given_file s passing

  its_points : (contents (mended s)).points ≡ mended_points s
  its_points = contents_points (mended s) ∙ points_are_its s good h.bytes

  few : length (contents (mended s)).points ≡ point_count (mended s)
  few = ap length its_points ∙ length_points s ∙ sym (count_is s good h.bytes)

  bins_are : part 111 20 (mended s) ≡ numbers_bytes 4 (bins 5 (format (mended s)) (contents (mended s)).points)
  bins_are = bins_in s good.whole ∙ rw (format_stays s, its_points)

  bounds_are : part 179 48 (mended s) ≡ numbers_bytes 8 (bounds (scaling_of (mended s)) (contents (mended s)).points)
  bounds_are = bounds_in s good.whole ∙ rw (scaling_stays s, its_points)

  its_count : point_count (mended s) ≡ min (point_count s) ((length s - point_offset s) / record_length s)
  its_count = count_is s good h.bytes ∙ unfold mended_count whole_records in refl

pub right_about_points : RightAboutPoints
right_about_points =
    record {
      passes = λ s h. rw (file s h) (passes (mended s) (file_passes s (good s h) h.bytes));
      counted = λ s h. rw (file s h) (its_count s h);
      binned =
          λ s h.
          rw (file s h)
          (binned_in (mended s) (mended s) (contents (mended s)).points (bins_are s h)
          (omega (arith, few s h, count_is s (good s h) h.bytes, count_stated s (good s h), count_low s h.bytes)));
      bounded =
          λ s h some axis.
          let some_there : 1 ≤ point_count (mended s) = rw (file s h) at some in
          rw (file s h)
          (bounded_in (mended s) (mended s) (contents (mended s)).points (file_passes s (good s h) h.bytes).scaled (bounds_are s h)
          (omega (arith, few s h)) axis);
      no_points =
          λ s h none.
          let none_there : point_count (mended s) ≡ 0 = rw (file s h) at none in
          rw (file s h) (zero_in (mended s) (mended s) (contents (mended s)).points (bounds_are s h) (few s h ∙ none_there));
    }

-- ---- mending again

pub mended_twice : MendedAgain
mended_twice =
    record {
      again =
          λ s h.
          let m : PassedWith 0 s = good s h in
          let verdict : mend_verdict (mended s) ≡ Passes = passing_mends (mended s) (passes (mended s) (file_passes s m h.bytes)) in
          rw (file s h, mend_accepted (mended s) verdict, mended_again s m h.bytes, no_marks (mended s));
    }

-- ---- what a release gives

contents_kept : (s : Bytes) → AllBytes s → file_verdict s ≡ Passes → contents (mended s) ≡ contents s
unfolding contents
contents_kept s bytes e =
    let m : PassedWith 0 s = mendable s (passing_mends s e) in
    let p : Passed s = passed s e in
    let count : mended_count s ≡ point_count s = count_exact s m (omega (arith, p.pointed, p.offset_high)) in
    let points : pieces (point_count (mended s)) (record_length (mended s)) (drop (point_offset (mended s)) (mended s))
    ≡ pieces (point_count s) (record_length s) (drop (point_offset s) s) =
    points_are_its s m bytes ∙ points_are s ∙ ap (λ (n : ℕ). pieces n (record_length s) (drop (point_offset s) s)) count in
    λ i. record { carried = carried_stays s i; records = walk_stays s m i; points = points i }

pub keeps_release : KeepsRelease
keeps_release =
    record {
      accepted = λ s e. given_verdict s ∙ passing_mends s e;
      contents_stay = λ s g. rw (given_file s (passing_mends s g.passes)) (contents_kept s g.bytes g.passes);
      release_stays = λ sheet s out bytes other. stays sheet s out bytes (file_verdict s) refl other;
    }
  where
    stays : (sheet s out : Bytes) → AllBytes s → (v : Verdict) → file_verdict s ≡ v → (file_verdict s ≡ Fails 9 → ⊥)
        → release sheet (mend s).1 out ≡ release sheet s out
    stays sheet s out bytes Passes e other =
        let able : mend_verdict s ≡ Passes = passing_mends s e in
        rw (given_file s able)
        (release_alike sheet (mended s) s out (passes (mended s) (file_passes s (mendable s able) bytes)) e (contents_kept s bytes e))
    stays sheet s out bytes (Fails n) e other =
        ap (λ (f : Bytes). release sheet f out) (given_refused s n (refused_alike s n (λ is. other (e ∙ ap Fails is)) e))
