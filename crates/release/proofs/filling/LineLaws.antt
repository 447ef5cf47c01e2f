-- What is looked at of a file, apart from any code: where it begins, and one thing after the other.
-- Assumes nothing.
use mathlib.Core.Path.{◌≡◌, refl, sym, ap, ◌∙◌}
use Prim.Native.Nat.{ℕ, zero, suc, ◌+◌, ◌-◌, ◌^◌, ◌≤◌, ◌<◌}
use native.Mathlib.Omega.{arith}
use mathlib.Core.Bool.{Bool, cond}
use mathlib.Core.List.{List, [], ◌++◌}
use lib.ListN.{length, drop}
use Rattle.release.specs.declared.kept_points.Keeper.{Keeper}
use Rattle.fields.specs.Lists.{kept, cons_if}
use Rattle.fields.specs.Bytes.{Bytes, part}
use Rattle.fields.proofs.ListLaws.{cons_if-append, map-cons_if}
use Rattle.lasfile.specs.Records.{record_at, size_of, places}
use Rattle.lasfile.specs.HeaderFields.{header_size, point_offset, record_count, format, record_length, point_count}
use Rattle.points.proofs.raw.RunLaws.{mul_step}
use Rattle.sheet.specs.Boxes.{keeps_by}
use Rattle.publicpart.specs.Public.{sheet_keeps}
use Rattle.publicpart.specs.declared.Span.{Span}
use Rattle.publicpart.specs.Cutting.{span, strides, payload_line, payload_lines, piece_lines}
use Rattle.release.specs.declared.filling.Filling.{Filling}
use Rattle.release.specs.Filling.{lines_of, lines_from, Ready, first_line, with_line, HasLine, Begun, Looked}
use Rattle.release.proofs.kept_points.LoopLaws.{step_le}

-- ---- the line of the first of n records, and of the first point where there is none

pub at_record : (s : Bytes) (n at point_at : ℕ) → 0 < n → first_line s n at point_at ≡ payload_line s at
unfolding first_line
at_record s zero at point_at h = absurd (omega arith)
at_record s (suc n) at point_at h = refl

pub at_point : (s : Bytes) (n at point_at : ℕ) → n ≤ 0 → first_line s n at point_at ≡ span point_at (record_length s)
unfolding first_line
at_point s zero at point_at h = refl
at_point s (suc n) at point_at h = absurd (omega arith)

-- ---- the lines of n records and m points, and of one less

module _ (sheet : Bytes) (keeper : Keeper) (s : Bytes) where
  abbrev records : ℕ → ℕ → List Span
  records n at = payload_lines sheet s n at

  abbrev points : ℕ → ℕ → List Span
  points m at = piece_lines (keeps_by keeper.table keeper.boxes (format s)) s (record_length s) m at

  -- whether the record, or the point, at a place is kept
  abbrev record_kept : ℕ → Bool
  record_kept at = sheet_keeps sheet (record_at 2 s at)

  abbrev point_kept : ℕ → Bool
  point_kept at = keeps_by keeper.table keeper.boxes (format s) (part at (record_length s) s)

  record_first : (n at : ℕ) → records (suc n) at ≡ cons_if (record_kept at) (payload_line s at) (records n (at + size_of 2 (drop at s)))
  unfolding payload_lines kept places
  record_first n at = map-cons_if (payload_line s) (record_kept at) at (kept record_kept (places 2 n (at + size_of 2 (drop at s)) s))

  point_first : (m at : ℕ) → points (suc m) at ≡ cons_if (point_kept at) (span at (record_length s)) (points m (at + record_length s))
  unfolding piece_lines kept strides
  point_first m at = map-cons_if (λ a. span a (record_length s)) (point_kept at) at (kept point_kept (strides (record_length s) m (at + record_length s)))

  no_records : (at : ℕ) → records 0 at ≡ []
  unfolding payload_lines kept places
  no_records at = refl

  no_points : (at : ℕ) → points 0 at ≡ []
  unfolding piece_lines kept strides
  no_points at = refl

  -- where there is a line, something is still to look at
  nothing_left : (t : Filling) → t.records ≡ 0 → t.points ≡ 0 → lines_from sheet keeper s t ≡ []
  unfolding lines_of
  nothing_left t e f = rw (e, f, no_records, no_points)

  pub some_left : (t : Filling) → 0 < length (lines_from sheet keeper s t) → 0 < t.records + t.points
  some_left t h = by_number (t.records + t.points) refl
    where
      by_number : (n : ℕ) → t.records + t.points ≡ n → 0 < n
      by_number zero e = absurd (omega (arith, h, ap length (nothing_left t (omega (arith, e)) (omega (arith, e)))))
      by_number (suc n) e = omega arith

  -- ---- past the thing at hand, for which k goes up by j

  module _ (t : Filling) (ready : Ready s t) (hand : HasLine s t) (j : ℕ) where
    pub past_record : 0 < t.records → j ≡ cond (record_kept t.record_at) 1 0 → (size : ℕ) → size ≡ size_of 2 (drop t.record_at s) → size < 2 ^ 17
        → Looked sheet keeper s t (record {
          more = t.more;
          k = t.k + j;
          place = t.place;
          length = t.length;
          n = t.n;
          records = t.records - 1;
          record_at = t.record_at + size;
          points = t.points;
          point_at = t.point_at;
          format = t.format;
          record_length = t.record_length;
        })
    unfolding lines_of
    past_record some counted size e small =
        let at : ℕ = t.record_at in
        let one : t.records ≡ suc (t.records - 1) = omega arith in
        let here : span t.place t.length ≡ payload_line s at = hand.here ∙ at_record s t.records at t.point_at some in
        let rest : List Span = points t.points t.point_at in
        record {
          ready =
              record {
                format = ready.format;
                size = ready.size;
                short = ready.short;
                few = omega (arith, ready.few, counted, step_le (record_kept at) 1);
                records_low = omega (arith, ready.records_low, mul_step t.records 131072 some);
                points_low = ready.points_low;
              };
          bound = refl;
          keep = record_kept at;
          count = ap (λ (i : ℕ). t.k + i) counted;
          lines =
              ap (λ (n : ℕ). records n at ++ rest) one
              ∙ ap (λ (l : List Span). l ++ rest) (record_first (t.records - 1) at)
              ∙ cons_if-append (record_kept at) (payload_line s at) (records (t.records - 1) (at + size_of 2 (drop at s))) rest
              ∙ (λ i. cons_if (record_kept at) (sym here i) (records (t.records - 1) (at + sym e i) ++ rest));
          fewer = omega arith;
        }

    pub past_point : t.records ≡ 0 → 0 < t.points → j ≡ cond (point_kept t.point_at) 1 0
        → Looked sheet keeper s t (record {
          more = t.more;
          k = t.k + j;
          place = t.place;
          length = t.length;
          n = t.n;
          records = t.records;
          record_at = t.record_at;
          points = t.points - 1;
          point_at = t.point_at + t.record_length;
          format = t.format;
          record_length = t.record_length;
        })
    unfolding lines_of
    past_point none some counted =
        let at : ℕ = t.point_at in
        let one : t.points ≡ suc (t.points - 1) = omega arith in
        let here : span t.place t.length ≡ span at (record_length s) = hand.here ∙ at_point s t.records t.record_at at (omega (arith, none)) in
        let no_more : records t.records t.record_at ≡ [] = rw none (no_records t.record_at) in
        record {
          ready =
              record {
                format = ready.format;
                size = ready.size;
                short = ready.short;
                few = omega (arith, ready.few, counted, step_le (point_kept at) 1);
                records_low = ready.records_low;
                points_low = omega (arith, ready.points_low, ready.short, mul_step t.points 65536 some);
              };
          bound = refl;
          keep = point_kept at;
          count = ap (λ (i : ℕ). t.k + i) counted;
          lines =
              (λ i. no_more i ++ points (one i) at)
              ∙ point_first (t.points - 1) at
              ∙ (λ i. cons_if (point_kept at) (sym here i) (sym no_more i ++ points (t.points - 1) (at + sym ready.size i)));
          fewer = omega arith;
        }

-- ---- with the line of the thing at hand

module _ (s : Bytes) where
  pub stands : (t : Filling) → HasLine s (with_line s t)
  stands t = record { here = refl; more = refl }

  ready_with_line : (t : Filling) → Ready s t → Ready s (with_line s t)
  ready_with_line t r =
      record { format = r.format; size = r.size; short = r.short; few = r.few; records_low = r.records_low; points_low = r.points_low }

  pub looked_with_line : (sheet : Bytes) (keeper : Keeper) (t r : Filling) → Looked sheet keeper s t r → Looked sheet keeper s t (with_line s r)
  unfolding lines_of
  looked_with_line sheet keeper t r l =
      record { ready = ready_with_line r l.ready; bound = l.bound; keep = l.keep; count = l.count; lines = l.lines; fewer = l.fewer }

  -- where all begins
  pub begun_with_line : (n : ℕ) (t : Filling) → Begun s n t → Begun s n (with_line s t)
  unfolding lines_of
  begun_with_line n t b = record { ready = ready_with_line t b.ready; none = b.none; bound = b.bound; lines = b.lines }

  pub begins : (n : ℕ) (t : Filling) → t.k ≡ 0 → t.n ≡ n → (t.records ≡ record_count s) × (t.records < 2 ^ 32) → (t.record_at ≡ header_size s) × (t.record_at < 2 ^ 16)
      → (t.points ≡ point_count s) × (t.points < 2 ^ 32) → (t.point_at ≡ point_offset s) × (t.point_at < 2 ^ 32) → t.format ≡ format s → (t.record_length ≡ record_length s) × (t.record_length < 2 ^ 16) → Begun s n t
  unfolding lines_of
  begins n t z b rc ra pc pa f l =
      record {
        ready =
            record {
              format = f;
              size = l.0;
              short = l.1;
              few = omega (arith, z, rc.1, pc.1);
              records_low = omega (arith, rc.1, ra.1);
              points_low = omega (arith, pc.1, pa.1);
            };
        none = z;
        bound = b;
        lines = λ sheet keeper. rw (rc.0, ra.0, pc.0, pa.0);
      }
