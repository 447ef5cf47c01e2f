-- Stepping visits the records of a file, in order.
-- Assumes nothing.
use mathlib.Core.Path.{◌≡◌, sym, ap, ◌∙◌, subst}
use Prim.Native.Nat.{ℕ, zero, suc, ◌+◌, ◌≤◌}
use native.Mathlib.Omega.{arith}
use mathlib.Core.List.{List, ◌∷◌, map}
use mathlib.Core.Logic.{inl}
use borrow.Author.Tests.{lt-ltb, le-ltb}
use lib.ListN.{length, drop}
use lib.Dec.{T}
use Rattle.fields.specs.Bytes.{Bytes, part}
use Rattle.fields.specs.Text.{cut}
use Rattle.fields.specs.Checks.{Clear, Passes}
use Rattle.fields.proofs.ByteLaws.{part-part, length-part-le}
use Rattle.fields.proofs.TextLaws.{cut_front, length_cut}
use Rattle.lasfile.specs.Records.{size_of, places, walk_end}
use Rattle.lasfile.proofs.vlr.FieldLaws.{user_at, id_at, description_at, record_at-payload}
use Rattle.lasfile.proofs.vlr.RecordLaws.{walk_grows, walk_end_step, places_none, places_step}
use Rattle.lasfile.specs.HeaderFields.{header_size, point_offset, record_count}
use Rattle.lasfile.specs.FileChecks.{file_verdict}
use Rattle.reader.specs.Steps.{record_places, next_cursor, step_of, collect, visited, Step, Record, Refused}
use Rattle.theorems.specs.Visits.{cursor, Means, Visits}
use Rattle.reader.specs.declared.cursor.RecordPlaces.{RecordPlaces}
use Rattle.lasfile.specs.Passed.{Passed}
use Rattle.lasfile.proofs.Passed.{records_end_lem, passed}
use Rattle.reader.proofs.cursor.StepLaws.{test, refused_18, answered}

module _ (s : Bytes) (passes : file_verdict s ≡ Passes) where
  ends_in_18 : (position : ℕ) → step_of s (record_count s) position ≡ Refused 18
  ends_in_18 position = refused_18 s (record_count s) position passes (inl (le-ltb (record_count s) (record_count s) (omega arith)))

  -- k records are left, and they lie before the points
  record Left (k index position : ℕ) : Type 0 where
    counted : index + k ≡ record_count s
    behind : header_size s ≤ position
    before : walk_end 2 k position s ≤ point_offset s

  clear : (k index position : ℕ) → Left (suc k) index position → Clear (test s index position)
  clear k index position l = (
    subst T (sym (lt-ltb index (record_count s) (omega (arith, l.counted)))) tt,
    (l.behind, omega (arith, l.before, walk_end_step 2 k position s, walk_grows 2 k (position + size_of 2 (drop position s)) s)),
  )

  step_is : (k index position : ℕ) → Left (suc k) index position
      → step_of s index position
      ≡ Record (record_places s position) (cursor (index + 1) (position + size_of 2 (drop position s)))
  unfolding next_cursor
  step_is k index position l = answered s index position passes (clear k index position l)

  left_next : (k index position : ℕ) → Left (suc k) index position
      → Left k (index + 1) (position + size_of 2 (drop position s))
  left_next k index position l =
      record {
        counted = omega (arith, l.counted);
        behind = omega (arith, l.behind);
        before = rw (walk_end_step 2 k position s) at l.before;
      }

  visits_left : (k m index position : ℕ) → Left k index position
      → visited (k + suc m) s (cursor index position) ≡ map (record_places s) (places 2 k position s)
  unfolding visited collect
  visits_left zero m index position l =
      let e : 0 + suc m ≡ suc m = omega arith in
      let i : index ≡ record_count s = omega (arith, l.counted) in
      rw (e, i, places_none 2 position s) (ap (λ (t : Step). collect t (visited m s)) (ends_in_18 position))
  visits_left (suc k) m index position l =
      let e : suc k + suc m ≡ suc (k + suc m) = omega arith in
      rw (e, places_step 2 k position s)
      (ap (λ (t : Step). collect t (visited (k + suc m) s)) (step_is k index position l)
      ∙ ap (λ (r : List RecordPlaces). record_places s position ∷ r) (visits_left k m (index + 1) (position + size_of 2 (drop position s)) (left_next k index position l)))

  visits : (m : ℕ)
      → visited (record_count s + suc m) s (cursor 0 (header_size s))
      ≡ map (record_places s) (places 2 (record_count s) (header_size s) s)
  visits m =
      let p : Passed s = passed s passes in
      visits_left (record_count s) m 0 (header_size s) (record { counted = omega arith; behind = omega arith; before = rw (records_end_lem s) at p.walked })

-- ---- what a record's places mean

-- a text's cut, at its place in the file
text_at : (s : Bytes) (at w : ℕ) → part at (length (cut (part at w s))) s ≡ cut (part at w s)
text_at s at w =
    let t : Bytes = part at w s in
    let e : at + 0 ≡ at = omega arith in
    let fits : 0 + length (cut t) ≤ w = omega (arith, length_cut t, length-part-le at w s) in
    let inner : part 0 (length (cut t)) t ≡ part at (length (cut t)) s = part-part at w 0 (length (cut t)) s fits ∙ rw e in
    sym inner ∙ cut_front t

places_mean : (s : Bytes) (at : ℕ) → Means s at (record_places s at)
unfolding record_places
places_mean s at =
    record {
      user = text_at s (at + 2) 16 ∙ sym (user_at 2 s at);
      id = sym (id_at 2 s at);
      description = text_at s (at + 22) 32 ∙ sym (description_at 2 s at);
      payload = sym (record_at-payload 2 s at);
    }

pub stepping : Visits
stepping = record { visits = visits; ends_in_18 = ends_in_18; places_mean = places_mean }
