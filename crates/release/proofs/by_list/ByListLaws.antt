-- What a release by a list is put together from is what it is to be, apart from any code: what the steps of
-- `release_by_list` require, once it is decided what is answered, and that all together they do what `release_by_list`
-- says.
-- Assumes nothing.
use mathlib.Core.Path.{◌≡◌, refl, sym, ap, subst, ◌∙◌}
use Prim.Native.Nat.{ℕ, ◌+◌, ◌-◌, ◌≤◌}
use native.Mathlib.Omega.{arith}
use mathlib.Core.Bool.{Bool, true, false}
use mathlib.Core.Logic.{◌⊎◌, inl, inr, ⊎_elim}
use mathlib.Core.List.{List, ◌++◌, append_assoc}
use lib.ListN.{length, take, drop, length-append, length-drop}
use lib.Dec.{ltb}
use borrow.Author.Tests.{ltb-true, ltb-false}
use lib.Seq.{sets, take_all, take_at, drop_at}
use Rattle.fields.specs.Bytes.{Bytes, AllBytes, zeros, join}
use Rattle.fields.specs.Checks.{Verdict, Passes, Fails}
use Rattle.lasfile.specs.Records.{records_bytes}
use Rattle.lasfile.specs.HeaderFields.{header_block}
use Rattle.lasfile.specs.FileChecks.{file_verdict}
use Rattle.publicpart.specs.Public.{public_of}
use Rattle.publicpart.specs.Render.{render}
use Rattle.publicpart.specs.Cutting.{record_lines, point_lines, cutting_lines, fill, fill_unless, list_verdict, release_by_list}
use Rattle.publicpart.specs.declared.Span.{Span}
use Rattle.publicpart.specs.Answers.{taken, refused_as}
use Rattle.publicpart.specs.declared.Released.{Released}
use Rattle.fields.specs.Refusals.{refusal_number}
use Rattle.publicpart.specs.declared.ReleaseError.{ReleaseError}
use Rattle.publicpart.specs.declared.ReleaseError.TheVariants as error
use Rattle.publicpart.specs.Release.{Answer, Short, Refused}
use Rattle.publicpart.specs.Release as answer
use Rattle.publicpart.proofs.AnswerLaws.{room_short, room_long}
use Rattle.publicpart.proofs.CuttingLaws.{listable, length-record_lines, length-point_lines, length-cutting_lines, by_list_refused, by_list_passed}
use Rattle.release.proofs.AssemblyLaws.{render-length}
use Rattle.release.proofs.cutting.ListLaws.{Fillable}
use Rattle.release.proofs.writing.ItemLaws.{cut_items}
use Rattle.release.proofs.by_list.OutputLaws.{length_items, written_is}
use Rattle.release.specs.Writing.{items, ItemsFit, with_items}
use Rattle.release.specs.ByList.{FinishFits, finished_file}

-- ---- an answer that is no release

short_is : (m n p r : ℕ) → Short m ≡ answer.Released n p r → ⊥
short_is m n p r f = let z : ◌≡◌ {A = ℕ} 0 1 = cc in omega arith

refused_is : (k n p r : ℕ) → Refused k ≡ answer.Released n p r → ⊥
refused_is k n p r f = let z : ◌≡◌ {A = ℕ} 0 1 = cc in omega arith

-- what is released, by its numbers
same_numbers : (r t : Released) → taken r ≡ taken t → r ≡ t
same_numbers r t e =
    let n : r.length ≡ t.length = cc in
    let p : r.points ≡ t.points = cc in
    let k : r.records ≡ t.records = cc in
    λ i. record { length = n i; points = p i; records = k i }

-- ---- a list that is filled

length-fill : (lines list : List Span) → length lines ≤ length list → length (fill lines list) ≡ length list
unfolding fill
length-fill lines list h = rw (length-append, length-drop) (omega arith)

-- lines of both kinds at the front of a list that is filled, by how many they are
front_lines : (rs ps list : List Span) (n : ℕ) → length rs ≡ n → take n (fill (rs ++ ps) list) ≡ rs
unfolding fill
front_lines rs ps list n e = rw (append_assoc) (take_at rs (ps ++ drop (length (rs ++ ps)) list) n e)

back_lines : (rs ps list : List Span) (n m : ℕ) → length rs ≡ n → length ps ≡ m → take m (drop n (fill (rs ++ ps) list)) ≡ ps
unfolding fill
back_lines rs ps list n m e f =
    rw (append_assoc, drop_at rs (ps ++ drop (length (rs ++ ps)) list) n e) (take_at ps (drop (length (rs ++ ps)) list) m f)

-- ---- the cases

module _ (sheet s out : Bytes) (list : List Span) where
  abbrev need : ℕ
  need = length (render (public_of sheet s))

  abbrev accepted : Answer
  accepted = answer.Released need (length (public_of sheet s).points) (length (public_of sheet s).records)

  -- a refusal, or an output that is too short
  record Left (a : Answer) : Type 0 where
    other : (n p r : ℕ) → a ≡ answer.Released n p r → ⊥
    is : release_by_list sheet s out list ≡ ((a, out), list)

  record Done (a : Answer) : Type 0 where
    answered : a ≡ accepted
    passes : list_verdict sheet s (length list) ≡ Passes
    room : need ≤ length out
    is : release_by_list sheet s out list ≡ ((accepted, render (public_of sheet s) ++ zeros (length out - need)), fill (cutting_lines sheet s) list)

  module _ (a : Answer) (decided : a ≡ (release_by_list sheet s out list).0.0) where
    left : (b : Answer) → Left b → Left a
    left b l = subst Left (sym (decided ∙ ap (λ o. o.0.0) l.is)) l

    by_room : list_verdict sheet s (length list) ≡ Passes → (b : Bool) → ltb (length out) need ≡ b → Left a ⊎ Done a
    unfolding fill_unless
    by_room e true f =
        let short : release_by_list sheet s out list ≡ ((Short need, out), list) =
        by_list_passed sheet s out list e ∙ rw (f, room_short (public_of sheet s) out (ltb-true (length out) need f)) in
        inl (left (Short need) (record { other = λ n p r g. short_is need n p r g; is = short }))
    by_room e false f =
        let enough : need ≤ length out = ltb-false (length out) need f in
        let all : release_by_list sheet s out list ≡ ((accepted, render (public_of sheet s) ++ zeros (length out - need)), fill (cutting_lines sheet s) list) =
        by_list_passed sheet s out list e ∙ rw (f, room_long (public_of sheet s) out enough) in
        inr (record { answered = decided ∙ ap (λ o. o.0.0) all; passes = e; room = enough; is = all })

    by_verdict : (v : Verdict) → list_verdict sheet s (length list) ≡ v → Left a ⊎ Done a
    by_verdict (Fails n) e = inl (left (Refused n) (record { other = λ m p r g. refused_is n m p r g; is = by_list_refused sheet s out list n e }))
    by_verdict Passes e = by_room e (ltb (length out) need) refl

    cases : Left a ⊎ Done a
    cases = by_verdict (list_verdict sheet s (length list)) refl

-- ---- where all is released

module _ (sheet s out : Bytes) (list : List Span) (passes : list_verdict sheet s (length list) ≡ Passes) where
  abbrev lines : List Span
  lines = cutting_lines sheet s

  abbrev all : Released
  all = record { length = length (render (public_of sheet s)); points = length (public_of sheet s).points; records = length (public_of sheet s).records }

  fits_list : length lines ≤ length list
  fits_list = (listable sheet s (length list) passes).room_for

  done_items : items s (fill lines list) all ≡ records_bytes 2 (public_of sheet s).records ++ join (public_of sheet s).points
  unfolding items cutting_lines
  done_items =
      let rs : List Span = record_lines sheet s in
      let ps : List Span = point_lines sheet s in
      let n : length rs ≡ length (public_of sheet s).records = length-record_lines sheet s in
      let m : length ps ≡ length (public_of sheet s).points = length-point_lines sheet s in
      rw (front_lines rs ps list _ n, back_lines rs ps list _ _ n m) (cut_items sheet s)

  module _ (bytes : AllBytes s) (room : length (render (public_of sheet s)) ≤ length out) where
    good : file_verdict s ≡ Passes
    good = (listable sheet s (length list) passes).file_passes

    done_fit : ItemsFit s (fill lines list) all (length out)
    done_fit =
        record {
          lines = omega (arith, length-fill lines list fits_list, fits_list, length-cutting_lines sheet s);
          within = rw done_items (omega (arith, length_items sheet s bytes good out room));
        }

    done_answer : FinishFits s all.length all.points (length out)
    done_answer = record { ends = omega (arith, render-length sheet s bytes good); within = room }

    done_together : finished_file s all.length all.points all.records (with_items s (fill lines list) all out)
        ≡ render (public_of sheet s) ++ zeros (length out - length (render (public_of sheet s)))
    done_together =
        ap (λ (x : Bytes). finished_file s all.length all.points all.records (sets out header_block x)) done_items
        ∙ written_is sheet s bytes good out room

-- r is what is released
module _ (sheet s out : Bytes) (list : List Span) (r : Released) (bytes : AllBytes s) (decided : taken r ≡ (release_by_list sheet s out list).0.0) where
  -- the list afterwards
  abbrev pub filled : List Span
  filled = fill (cutting_lines sheet s) list

  done : Done sheet s out list (taken r)
  done = ⊎_elim (λ l. absurd (l.other r.length r.points r.records refl)) (λ d. d) (cases sheet s out list (taken r) decided)

  is_all : r ≡ all sheet s out list done.passes
  is_all = same_numbers r (all sheet s out list done.passes) done.answered

  pub lines_are : r.records + r.points ≡ length (cutting_lines sheet s)
  lines_are = rw is_all (omega (arith, length-cutting_lines sheet s))

  pub all_put : take (r.records + r.points) (cutting_lines sheet s) ≡ cutting_lines sheet s
  all_put = rw lines_are (take_all (length (cutting_lines sheet s)) (cutting_lines sheet s) (omega arith))

  pub lines_fit : Fillable (cutting_lines sheet s) list (r.records + r.points)
  lines_fit = let l = lines_are in (omega arith, omega (arith, fits_list sheet s out list done.passes))

  pub items_fit : ItemsFit s filled r (length out)
  items_fit = rw is_all (done_fit sheet s out list done.passes bytes done.room)

  pub answer_fits : FinishFits s r.length r.points (length out)
  answer_fits = rw is_all (done_answer sheet s out list done.passes bytes done.room)

  pub together : ((taken r, finished_file s r.length r.points r.records (with_items s filled r out)), filled) ≡ release_by_list sheet s out list
  together = rw is_all (ap (λ (x : Bytes). ((accepted sheet s out list, x), filled)) (done_together sheet s out list done.passes bytes done.room) ∙ sym done.is)

-- a refusal leaves output and list as they were
pub as_they_were : (sheet s out : Bytes) (list : List Span) (e : ReleaseError) → refused_as e ≡ (release_by_list sheet s out list).0.0
    → ((refused_as e, out), list) ≡ release_by_list sheet s out list
as_they_were sheet s out list e decided =
    ⊎_elim
    (λ l. sym l.is)
    (λ d. absurd (no_release e _ _ _ d.answered))
    (cases sheet s out list (refused_as e) decided)
  where
    no_release : (e : ReleaseError) (n p r : ℕ) → refused_as e ≡ answer.Released n p r → ⊥
    no_release (error.Refused k) n p r f = refused_is (refusal_number k) n p r f
    no_release (error.OutputTooShort m) n p r f = short_is m n p r f
