-- Laws of the mender: the points that are there, and the marks before the fields are written.
-- Assumes nothing.
use mathlib.Core.Path.{◌≡◌, refl, sym, ap, ◌∙◌}
use mathlib.Core.Logic.{inl}
use Prim.Native.Nat.{ℕ, zero, suc, ◌+◌, ◌*◌, ◌-◌, ◌^◌, ◌≤◌, ◌<◌}
use native.Mathlib.Nat.{le-div_iff_mul-le}
use native.Mathlib.Omega.{arith}
use borrow.Author.Tests.{eqb-true, eqb-false}
use mathlib.Core.Bool.{Bool, true, false, not}
use mathlib.Core.List.{List, [], ◌∷◌}
use lib.Dec.{eqb, lit≤, lit<}
use lib.ListN.{length, drop, get_or, length-drop}
use lib.Seq.{sets, length-sets}
use Rattle.fields.specs.Bytes.{Bytes, AllBytes, part, num, same, bytes_of, pieces, numbers_bytes}
use Rattle.fields.specs.Checks.{Passes}
use Rattle.fields.proofs.ByteLaws.{same→eq, same_self, num-bytes_of, bytes_of-num, length_part, length-pieces, drop_bytes, take_bytes}
use Rattle.fields.proofs.StoreLaws.{Apart, part_outside, part_stored, drop_behind}
use Rattle.fields.proofs.arrays.NumberLaws.{length_numbers, numbers_part, stored_next}
use Rattle.points.specs.Raw.{points_of}
use Rattle.points.proofs.formats.FormatLaws.{shared_first}
use Rattle.points.proofs.raw.RunLaws.{InRun, points_held}
use Rattle.lasfile.specs.HeaderFields.{header_block, point_offset, format, record_length, point_count}
use Rattle.scaling.specs.Scaling.{scaling_of}
use Rattle.scaling.specs.declared.Bounds.{Bounds}
use Rattle.lasfile.specs.FileChecks.{mend_verdict}
use Rattle.lasfile.proofs.header.FieldLaws.{count_low}
use Rattle.lasfile.specs.Passed.{PassedWith}
use Rattle.publicpart.specs.Bounds.{bins, bounds, bound_numbers}
use Rattle.publicpart.proofs.BoundLaws.{length-bins, length-bounds}
use Rattle.tally.specs.declared.Tally.{Tally}
use Rattle.tally.specs.Bins.{bin_numbers}
use Rattle.tally.specs.Tally.{no_tally, tally_of, tally_more, tally_bounds, CountsUpTo}
use Rattle.tally.proofs.CountLaws.{counts_few, more_of}
use Rattle.tally.proofs.TallyLaws.{tally_count, tally_bins}
use Rattle.tally.proofs.BoundsLaws.{tally_bounds_lem}
use Rattle.editor.specs.Mend.{whole_records, mended_count, mended_points, mended, changed, marks, mend_by, mend, AllFit, differs, six_differ, marks_for}

-- ---- the points that are there

module _ (s : Bytes) (m : PassedWith 0 s) where
  -- a record has 20 bytes or more
  pub record_long : 20 ≤ record_length s
  record_long = omega (arith, m.record_low, shared_first (format s) m.formatted)

  -- no more than are stated
  pub count_stated : mended_count s ≤ point_count s
  unfolding mended_count
  count_stated = omega arith

  -- and no more than there is room for
  pub count_room : mended_count s * record_length s ≤ length s - point_offset s
  unfolding mended_count whole_records
  count_room = (le-div_iff_mul-le {k = record_length s} (omega (arith, record_long))).0 (omega arith)

  -- all of them, where all are there
  pub count_exact : point_count s * record_length s ≤ length s - point_offset s → mended_count s ≡ point_count s
  unfolding mended_count whole_records
  count_exact h = omega (arith, (le-div_iff_mul-le {k = record_length s} (omega (arith, record_long))).1 h)

  pub count_held : AllBytes s → InRun (mended_count s) (record_length s) (length (drop (point_offset s) s))
  count_held bytes =
      record { long = record_long; few = omega (arith, count_stated, count_low s bytes); within = simp length-drop count_room }

pub length_points : (s : Bytes) → length (mended_points s) ≡ mended_count s
unfolding mended_points
length_points s = length-pieces (mended_count s) (record_length s) (drop (point_offset s) s)

pub points_are : (s : Bytes) → mended_points s ≡ pieces (mended_count s) (record_length s) (drop (point_offset s) s)
unfolding mended_points
points_are s = refl

-- the tally of a run that holds them
pub tally_there : (s : Bytes) → PassedWith 0 s → AllBytes s → (f len count : ℕ) (run : Bytes) (fresh t : Tally) → fresh ≡ no_tally → f ≡ format s
    → len ≡ record_length s → count ≡ mended_count s → run ≡ drop (point_offset s) s → t ≡ tally_more f fresh (points_of count len run)
    → t ≡ tally_of (format s) (mended_points s)
unfolding tally_of
tally_there s m bytes f len count run fresh t none at_f at_len at_count at_run e =
    e
    ∙ rw (none, at_f, at_len, at_count, at_run, points_held (mended_count s) (record_length s) (drop (point_offset s) s) (count_held s m bytes), ← points_are s)
    (more_of (format s) [] (mended_points s) (lit< tt))

-- ---- the mended file: its length, its twelve fields, and what lies outside them

module _ (s : Bytes) where
  -- the six numbers from 107 on
  abbrev pub counts : List ℕ
  counts = mended_count s ∷ bins 5 (format s) (mended_points s)

  -- the six from 179 on
  abbrev pub bits : List ℕ
  bits = bounds (scaling_of s) (mended_points s)

  pub six_counts : length counts ≡ 6
  six_counts = ap suc (length-bins 5 (format s) (mended_points s))

  pub six_bounds : length bits ≡ 6
  six_bounds = length-bounds (scaling_of s) (mended_points s)

  length-counts : length (numbers_bytes 4 counts) ≡ 24
  length-counts = length_numbers 4 counts ∙ ap (λ (n : ℕ). n * 4) six_counts

  length-bits : length (numbers_bytes 8 bits) ≡ 48
  length-bits = length_numbers 8 bits ∙ ap (λ (n : ℕ). n * 8) six_bounds

  pub mended_is : mended s ≡ sets (sets s 107 (numbers_bytes 4 counts)) 179 (numbers_bytes 8 bits)
  unfolding mended
  mended_is = refl

  pub length-mended : length (mended s) ≡ length s
  unfolding mended
  length-mended = length-sets (sets s 107 (numbers_bytes 4 counts)) 179 (numbers_bytes 8 bits) ∙ length-sets s 107 (numbers_bytes 4 counts)

  -- a part that meets neither of the two runs
  pub outside : (a w : ℕ) → Apart a w 107 24 → Apart a w 179 48 → part a w (mended s) ≡ part a w s
  unfolding mended
  outside a w h k =
      part_outside a w 179 (numbers_bytes 8 bits) (sets s 107 (numbers_bytes 4 counts)) (rw length-bits k)
      ∙ part_outside a w 107 (numbers_bytes 4 counts) s (rw length-counts h)

  -- behind the header nothing changes
  pub behind : (a : ℕ) → header_block ≤ a → drop a (mended s) ≡ drop a s
  unfolding mended
  behind a h =
      drop_behind a 179 (numbers_bytes 8 bits) (sets s 107 (numbers_bytes 4 counts)) (omega (arith, length-bits))
      ∙ drop_behind a 107 (numbers_bytes 4 counts) s (omega (arith, length-counts))

  module _ (long : header_block ≤ length s) where
    pub counts_in : part 107 (length counts * 4) (mended s) ≡ numbers_bytes 4 counts
    unfolding mended
    counts_in =
        let e : length counts * 4 ≡ 24 = ap (λ (n : ℕ). n * 4) six_counts in
        rw e (
        part_outside 107 24 179 (numbers_bytes 8 bits) (sets s 107 (numbers_bytes 4 counts)) (inl (lit≤ tt))
        ∙ part_stored 107 24 (numbers_bytes 4 counts) s length-counts (omega arith)
        )

    pub bins_in : part 111 20 (mended s) ≡ numbers_bytes 4 (bins 5 (format s) (mended_points s))
    bins_in =
        let five : List ℕ = bins 5 (format s) (mended_points s) in
        let d : Bytes = sets s 107 (bytes_of 4 (mended_count s)) in
        let e : length (numbers_bytes 4 five) ≡ 20 = length_numbers 4 five ∙ ap (λ (n : ℕ). n * 4) (length-bins 5 (format s) (mended_points s)) in
        ap (part 111 20) mended_is
        ∙ part_outside 111 20 179 (numbers_bytes 8 bits) (sets s 107 (numbers_bytes 4 counts)) (inl (lit≤ tt))
        ∙ ap (part 111 20) (stored_next s 107 4 (mended_count s) five)
        ∙ part_stored 111 20 (numbers_bytes 4 five) d e (omega (arith, length-sets s 107 (bytes_of 4 (mended_count s))))

    pub bounds_in : part 179 48 (mended s) ≡ numbers_bytes 8 bits
    unfolding mended
    bounds_in =
        part_stored 179 48 (numbers_bytes 8 bits) (sets s 107 (numbers_bytes 4 counts)) length-bits
        (omega (arith, length-sets s 107 (numbers_bytes 4 counts)))

    pub bits_in : part 179 (length bits * 8) (mended s) ≡ numbers_bytes 8 bits
    bits_in = let e : length bits * 8 ≡ 48 = ap (λ (n : ℕ). n * 8) six_bounds in rw e bounds_in

-- ---- marks: a field's bytes are those of a number exactly if it has that number

same_by : (p : Bytes) → AllBytes p → (n : ℕ) → n < 256 ^ length p → (b c : Bool) → eqb (num p) n ≡ b → same p (bytes_of (length p) n) ≡ c → b ≡ c
same_by p bytes n small true true e f = refl
same_by p bytes n small false false e f = refl
same_by p bytes n small true false e f =
    sym (same_self p) ∙ ap (same p) (sym (bytes_of-num p bytes) ∙ ap (bytes_of (length p)) (eqb-true (num p) n e)) ∙ f
same_by p bytes n small false true e f =
    let g : p ≡ bytes_of (length p) n = same→eq p (bytes_of (length p) n) (rw f tt) in
    absurd (eqb-false (num p) n e (ap num g ∙ num-bytes_of (length p) n small))

-- what comparing numbers says
pub number_differs : (s : Bytes) → AllBytes s → (at w n : ℕ) → at + w ≤ length s → n < 256 ^ w → not (eqb (num (part at w s)) n) ≡ differs s at w n
number_differs s bytes at w n room small =
    let long : length (part at w s) ≡ w = length_part at w s room in
    let e : eqb (num (part at w s)) n ≡ same (part at w s) (bytes_of (length (part at w s)) n) =
    same_by (part at w s) (unfold part in take_bytes w (drop at s) (drop_bytes at s bytes)) n (rw long small) _ _ refl refl in
    ap not (e ∙ ap (λ (k : ℕ). same (part at w s) (bytes_of k n)) long)

-- six numbers that fit a width
pub all_fit : (w a b c d e f : ℕ) → a < 256 ^ w → b < 256 ^ w → c < 256 ^ w → d < 256 ^ w → e < 256 ^ w → f < 256 ^ w
    → AllFit w (a ∷ b ∷ c ∷ d ∷ e ∷ f ∷ [])
all_fit w a b c d e f ha hb hc hd he hf zero = ha
all_fit w a b c d e f ha hb hc hd he hf (suc zero) = hb
all_fit w a b c d e f ha hb hc hd he hf (suc (suc zero)) = hc
all_fit w a b c d e f ha hb hc hd he hf (suc (suc (suc zero))) = hd
all_fit w a b c d e f ha hb hc hd he hf (suc (suc (suc (suc zero)))) = he
all_fit w a b c d e f ha hb hc hd he hf (suc (suc (suc (suc (suc zero))))) = hf
all_fit w a b c d e f ha hb hc hd he hf (suc (suc (suc (suc (suc (suc i)))))) = omega (arith, ha)

-- six fields of t that hold these numbers
six_changed : (s t : Bytes) (at w : ℕ) (ns : List ℕ) → length ns ≡ 6 → part at (length ns * w) t ≡ numbers_bytes w ns
    → changed s t (at, w) ∷ changed s t (at + w, w) ∷ changed s t (at + 2 * w, w) ∷ changed s t (at + 3 * w, w) ∷ changed s t (at + 4 * w, w)
    ∷ changed s t (at + 5 * w, w) ∷ [] ≡ six_differ s at w ns
unfolding changed six_differ
six_changed s t at w ns six are =
    let held : (i : ℕ) → i < 6 → part (at + i * w) w t ≡ bytes_of w (get_or ns i 0) = λ i h. numbers_part t at w i ns are (rw six h) in
    let first : at + 0 * w ≡ at = omega arith in
    let second : at + 1 * w ≡ at + w = omega arith in
    rw (
      rw first at (held 0 (lit< tt)),
      rw second at (held 1 (lit< tt)),
      held 2 (lit< tt),
      held 3 (lit< tt),
      held 4 (lit< tt),
      held 5 (lit< tt),
    )

-- what the tally of the points that are there says, and its bounds
module _ (s : Bytes) (t : Tally) (e : t ≡ tally_of (format s) (mended_points s)) where
  count_of : t.count ≡ mended_count s
  count_of = rw e (tally_count (format s) (mended_points s) ∙ length_points s)

  five_of : bin_numbers t.bins ≡ bins 5 (format s) (mended_points s)
  five_of = rw e (tally_bins (format s) (mended_points s))

  six_of : (b : Bounds) → b ≡ tally_bounds t (scaling_of s) → bound_numbers b ≡ bounds (scaling_of s) (mended_points s)
  six_of b f = rw (f, e) (tally_bounds_lem (format s) (scaling_of s) (mended_points s))

  pub counts_low : PassedWith 0 s → AllBytes s → CountsUpTo t 4294967295
  counts_low m bytes = rw e (counts_few (format s) 4294967295 (mended_points s) (omega (arith, length_points s, (count_held s m bytes).few)))

  -- the marks by these
  pub marks_are : header_block ≤ length s → (b : Bounds) → b ≡ tally_bounds t (scaling_of s) → marks_for s t b ≡ marks s (mended s)
  unfolding marks_for marks
  marks_are long b f =
      rw (
        count_of,
        five_of,
        six_of b f,
        ← six_changed s (mended s) 107 4 (counts s) (six_counts s) (counts_in s long),
        ← six_changed s (mended s) 179 8 (bits s) (six_bounds s) (bits_in s long),
      )

-- ---- the answer

pub mend_accepted : (s : Bytes) → mend_verdict s ≡ Passes → mend s ≡ (record { verdict = Passes; marks = marks s (mended s) }, mended s)
unfolding mend mend_by
mend_accepted s e = rw e

-- the two stores, of what a tally and its bounds say
pub stored : (s t out : Bytes) (tally : Tally) (b : Bounds) → tally ≡ tally_of (format s) (mended_points s) → b ≡ tally_bounds tally (scaling_of s)
    → t ≡ sets s 107 (numbers_bytes 4 (tally.count ∷ bin_numbers tally.bins)) → out ≡ sets t 179 (numbers_bytes 8 (bound_numbers b)) → out ≡ mended s
unfolding mended
stored s t out tally b e f by_counts by_bounds = by_bounds ∙ rw (by_counts, count_of s tally e, five_of s tally e, six_of s tally e b f)
