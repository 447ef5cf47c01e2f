-- Laws of records: the walk step by step, those of a file are sound, and sound records are read back.
-- Assumes nothing.
use mathlib.Core.Path.{◌≡◌, refl, ap, ◌∙◌}
use Prim.Native.Nat.{ℕ, zero, suc, ◌+◌, ◌≤◌, ◌<◌}
use native.Mathlib.Nat.{not-suc-le-zero}
use native.Mathlib.Omega.{arith}
use mathlib.Core.List.{List, [], ◌∷◌, ◌++◌, map, append_assoc}
use lib.ListN.{length, get_or, take, drop, length-append, length-drop}
use lib.Seq.{drop_at}
use lib.Dec.{lit<}
use Rattle.fields.specs.Lists.{All, total}
use Rattle.fields.specs.Bytes.{Bytes, AllBytes, part, num, join, Fit, start}
use Rattle.fields.specs.Text.{cut, padded}
use Rattle.lasfile.specs.Records.{Record, record_widths, front_size, payload_length, record_of, size_of, places, walk, walk_end, record_fields, record_bytes, written_length, records_bytes, SoundRecord}
use Rattle.fields.proofs.ByteLaws.{num-bytes_of, length-bytes_of, num-part-lt, length_part, part-take, field_back, length-join, drop_bytes}
use Rattle.fields.proofs.TextLaws.{held, length-padded}

-- ---- reading a file

-- a record is as long as its header, at least
pub front_in_size : (lw : ℕ) (s : Bytes) → front_size lw ≤ size_of lw s
unfolding size_of
front_in_size lw s = omega arith

-- nothing of it stands behind its end
pub record_cut : (lw : ℕ) (s : Bytes) → record_of lw (take (front_size lw + payload_length lw s) s) ≡ record_of lw s
unfolding record_of payload_length
record_cut lw s =
    let n : ℕ = front_size lw + payload_length lw s in
    rw (part-take 2 16 n s (omega arith), part-take 18 2 n s (omega arith), part-take 20 lw n s (omega arith), part-take (20 + lw) 32 n s (omega arith), part-take (front_size lw) (payload_length lw s) n s (omega arith))

pub walk_grows : (lw n at : ℕ) (s : Bytes) → at ≤ walk_end lw n at s
unfolding walk_end
walk_grows lw zero at s = omega arith
walk_grows lw (suc n) at s = omega (arith, walk_grows lw n (at + size_of lw (drop at s)) s)

pub walk_end_none : (lw at : ℕ) (s : Bytes) → walk_end lw 0 at s ≡ at
unfolding walk_end
walk_end_none lw at s = refl

pub walk_end_step : (lw n at : ℕ) (s : Bytes) → walk_end lw (suc n) at s ≡ walk_end lw n (at + size_of lw (drop at s)) s
unfolding walk_end
walk_end_step lw n at s = refl

pub places_none : (lw at : ℕ) (s : Bytes) → places lw 0 at s ≡ []
unfolding places
places_none lw at s = refl

pub places_step : (lw n at : ℕ) (s : Bytes) → places lw (suc n) at s ≡ at ∷ places lw n (at + size_of lw (drop at s)) s
unfolding places
places_step lw n at s = refl

pub walk_none : (lw at : ℕ) (s : Bytes) → walk lw 0 at s ≡ []
unfolding walk places
walk_none lw at s = refl

pub walk_step : (lw n at : ℕ) (s : Bytes) → walk lw (suc n) at s ≡ record_of lw (drop at s) ∷ walk lw n (at + size_of lw (drop at s)) s
unfolding walk places
walk_step lw n at s = refl

-- one record more, as a loop goes on
pub walk_end-suc : (lw n at : ℕ) (s : Bytes) → walk_end lw (suc n) at s ≡ walk_end lw n at s + size_of lw (drop (walk_end lw n at s) s)
unfolding walk_end
walk_end-suc lw zero at s = refl
walk_end-suc lw (suc n) at s = walk_end-suc lw n (at + size_of lw (drop at s)) s

pub walk-suc : (lw n at : ℕ) (s : Bytes) → walk lw (suc n) at s ≡ walk lw n at s ++ (record_of lw (drop (walk_end lw n at s) s) ∷ [])
unfolding walk places walk_end
walk-suc lw zero at s = refl
walk-suc lw (suc n) at s = ap (λ (r : List Record). record_of lw (drop at s) ∷ r) (walk-suc lw n (at + size_of lw (drop at s)) s)

-- a later end is no smaller: one record past the offset is enough for check 8
pub walk_end_mono : (lw m n at : ℕ) (s : Bytes) → m ≤ n → walk_end lw m at s ≤ walk_end lw n at s
unfolding walk_end
walk_end_mono lw zero n at s h = walk_grows lw n at s
walk_end_mono lw (suc m) zero at s h = absurd (not-suc-le-zero h)
walk_end_mono lw (suc m) (suc n) at s h = walk_end_mono lw m n (at + size_of lw (drop at s)) s (omega arith)

-- files that have the same bytes from a place on have the same records there
module _ (lw : ℕ) (s t : Bytes) (place : ℕ) (same : (i : ℕ) → place ≤ i → drop i s ≡ drop i t) where
  pub walk_end_same : (n at : ℕ) → place ≤ at → walk_end lw n at s ≡ walk_end lw n at t
  unfolding walk_end
  walk_end_same zero at h = refl
  walk_end_same (suc n) at h = rw (same at h) (walk_end_same n (at + size_of lw (drop at t)) (omega arith))

  pub walk_same : (n at : ℕ) → place ≤ at → walk lw n at s ≡ walk lw n at t
  unfolding walk places
  walk_same zero at h = refl
  walk_same (suc n) at h = rw (same at h) (ap (λ (r : List Record). record_of lw (drop at t) ∷ r) (walk_same n (at + size_of lw (drop at t)) (omega arith)))

module _ (lw : ℕ) (s : Bytes) (bytes : AllBytes s) where
  pub payload_length_lem : (at : ℕ) → at + size_of lw (drop at s) ≤ length s
      → length (record_of lw (drop at s)).payload ≡ payload_length lw (drop at s)
  unfolding record_of size_of
  payload_length_lem at h = length_part (front_size lw) (payload_length lw (drop at s)) (drop at s) (simp length-drop (omega arith))

  pub sound_record : (at : ℕ) → at + size_of lw (drop at s) ≤ length s → SoundRecord lw (record_of lw (drop at s))
  sound_record at h =
      record {
        user = unfold record_of in held 2 16 (drop at s);
        id = unfold record_of in num-part-lt 18 2 (drop at s) (drop_bytes at s bytes);
        description = unfold record_of in held (20 + lw) 32 (drop at s);
        payload = rw (payload_length_lem at h) (unfold payload_length in num-part-lt 20 lw (drop at s) (drop_bytes at s bytes));
      }

  -- the records of a file are sound, if the walk ends in it
  pub walk_sound : (n at : ℕ) → walk_end lw n at s ≤ length s → All (SoundRecord lw) (walk lw n at s)
  unfolding walk places walk_end
  walk_sound zero at h = tt
  walk_sound (suc n) at h =
      (sound_record at (omega (arith, walk_grows lw n (at + size_of lw (drop at s)) s)), walk_sound n (at + size_of lw (drop at s)) h)

  pub record_size : (at : ℕ) → at + size_of lw (drop at s) ≤ length s → written_length lw (record_of lw (drop at s)) ≡ size_of lw (drop at s)
  record_size at h = unfold written_length size_of in ap (λ (n : ℕ). front_size lw + n) (payload_length_lem at h)

  -- they fill the room between their place and the walk's end
  pub walk-total : (n at : ℕ) → walk_end lw n at s ≤ length s → at + total (written_length lw) (walk lw n at s) ≡ walk_end lw n at s
  unfolding walk places walk_end total written_length
  walk-total zero at h = omega arith
  walk-total (suc n) at h =
      omega (arith, record_size at (omega (arith, walk_grows lw n (at + size_of lw (drop at s)) s)), walk-total n (at + size_of lw (drop at s)) h)

  pub length-walk : (n at : ℕ) → length (walk lw n at s) ≡ n
  unfolding walk places
  length-walk zero at = refl
  length-walk (suc n) at = ap suc (length-walk n (at + size_of lw (drop at s)))

-- ---- reading back what was written

module _ (lw : ℕ) where
  pub fit : (r : Record) → SoundRecord lw r → Fit (record_widths lw (length r.payload)) (record_fields lw r)
  fit r h = (
    refl,
    (
      length-padded 16 r.user h.user.short,
      (length-bytes_of 2 r.id, (length-bytes_of lw (length r.payload), (length-padded 32 r.description h.description.short, (refl, tt)))),
    ),
  )

  pub length-record_bytes : (r : Record) → SoundRecord lw r → length (record_bytes lw r) ≡ written_length lw r
  unfolding record_bytes written_length total
  length-record_bytes r h = length-join (record_widths lw (length r.payload)) (record_fields lw r) (fit r h) ∙ omega arith

  module _ (r : Record) (h : SoundRecord lw r) (rest : Bytes) where
    -- field i of the record, read at its place
    field : (i : ℕ) → i < 6
        → part (start i (record_widths lw (length r.payload))) (get_or (record_widths lw (length r.payload)) i 0) (record_bytes lw r ++ rest)
        ≡ get_or (record_fields lw r) i []
    unfolding record_bytes
    field i k = field_back (record_widths lw (length r.payload)) (record_fields lw r) rest i (fit r h) k

    number_back : payload_length lw (record_bytes lw r ++ rest) ≡ length r.payload
    unfolding payload_length
    number_back = rw (field 3 (lit< tt)) (num-bytes_of lw (length r.payload) h.payload)

    size_back : size_of lw (record_bytes lw r ++ rest) ≡ written_length lw r
    unfolding size_of written_length
    size_back = ap (λ (n : ℕ). front_size lw + n) number_back

    description_back : part (20 + lw) 32 (record_bytes lw r ++ rest) ≡ padded 32 r.description
    description_back = let e : 20 + lw ≡ 2 + (16 + (2 + (lw + 0))) = omega arith in rw e (field 4 (lit< tt))

    payload_back : part (front_size lw) (length r.payload) (record_bytes lw r ++ rest) ≡ r.payload
    payload_back = let e : 52 + lw ≡ 2 + (16 + (2 + (lw + (32 + 0)))) = omega arith in rw e (field 5 (lit< tt))

    record_back : record_of lw (record_bytes lw r ++ rest) ≡ r
    unfolding record_of
    record_back =
        let user : cut (part 2 16 (record_bytes lw r ++ rest)) ≡ r.user = rw (field 1 (lit< tt)) h.user.back in
        let id : num (part 18 2 (record_bytes lw r ++ rest)) ≡ r.id = rw (field 2 (lit< tt)) (num-bytes_of 2 r.id h.id) in
        let description : cut (part (20 + lw) 32 (record_bytes lw r ++ rest)) ≡ r.description = rw description_back h.description.back in
        let payload : part (front_size lw) (payload_length lw (record_bytes lw r ++ rest)) (record_bytes lw r ++ rest) ≡ r.payload = rw number_back payload_back in
        λ i. record { user = user i; id = id i; description = description i; payload = payload i }

  -- the first record of a run, with what stands before and after it
  regroup : (pre : Bytes) (r : Record) (rs : List Record) (rest : Bytes)
      → pre ++ (records_bytes lw (r ∷ rs) ++ rest) ≡ pre ++ record_bytes lw r ++ (records_bytes lw rs ++ rest)
  unfolding records_bytes join
  regroup pre r rs rest = simp append_assoc

  first : (pre : Bytes) (r : Record) (rs : List Record) (rest : Bytes) (at : ℕ) → length pre ≡ at
      → drop at (pre ++ (records_bytes lw (r ∷ rs) ++ rest)) ≡ record_bytes lw r ++ (records_bytes lw rs ++ rest)
  unfolding records_bytes join
  first pre r rs rest at e = rw append_assoc (drop_at pre (record_bytes lw r ++ (records_bytes lw rs ++ rest)) at e)

  next : (pre : Bytes) (r : Record) (at : ℕ) → SoundRecord lw r → length pre ≡ at → length (pre ++ record_bytes lw r) ≡ at + written_length lw r
  next pre r at h e = omega (arith, length-append pre (record_bytes lw r), length-record_bytes r h)

  -- a walk over records that were written at a place finds them, whatever stands before and behind them
  pub walk_back : (rs : List Record) → All (SoundRecord lw) rs → (at : ℕ) (pre rest : Bytes) → length pre ≡ at
      → walk lw (length rs) at (pre ++ (records_bytes lw rs ++ rest)) ≡ rs
  walk_back [] h at pre rest e = walk_none lw at (pre ++ (records_bytes lw [] ++ rest))
  walk_back (r ∷ rs) h at pre rest e =
      let s : Bytes = pre ++ (records_bytes lw (r ∷ rs) ++ rest) in
      let here : record_of lw (drop at s) ≡ r = rw (first pre r rs rest at e) (record_back r h.0 (records_bytes lw rs ++ rest)) in
      let after : at + size_of lw (drop at s) ≡ at + written_length lw r = rw (first pre r rs rest at e, size_back r h.0 (records_bytes lw rs ++ rest)) in
      let later : walk lw (length rs) (at + written_length lw r) s ≡ rs =
      rw (regroup pre r rs rest) (walk_back rs h.1 (at + written_length lw r) (pre ++ record_bytes lw r) rest (next pre r at h.0 e)) in
      walk_step lw (length rs) at s ∙ rw (here, after, later)

  -- and it ends where they do
  pub walk_end_back : (rs : List Record) → All (SoundRecord lw) rs → (at : ℕ) (pre rest : Bytes) → length pre ≡ at
      → walk_end lw (length rs) at (pre ++ (records_bytes lw rs ++ rest)) ≡ at + total (written_length lw) rs
  unfolding total
  walk_end_back [] h at pre rest e = omega (arith, walk_end_none lw at (pre ++ (records_bytes lw [] ++ rest)))
  walk_end_back (r ∷ rs) h at pre rest e =
      rw (
        walk_end_step lw (length rs) at (pre ++ (records_bytes lw (r ∷ rs) ++ rest)),
        first pre r rs rest at e,
        size_back r h.0,
        regroup pre r rs rest,
        walk_end_back rs h.1 (at + written_length lw r) (pre ++ record_bytes lw r) rest (next pre r at h.0 e),
      ) (omega arith)

  pub length-records_bytes : (rs : List Record) → All (SoundRecord lw) rs → length (records_bytes lw rs) ≡ total (written_length lw) rs
  unfolding records_bytes join total
  length-records_bytes [] h = refl
  length-records_bytes (r ∷ rs) h =
      length-append (record_bytes lw r) (join (map (record_bytes lw) rs)) ∙ rw (length-record_bytes r h.0, length-records_bytes rs h.1)
