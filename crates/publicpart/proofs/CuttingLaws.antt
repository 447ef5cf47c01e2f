-- Laws of the cutting list: what its lines name, how many they are, and the answers case by case.
-- Assumes nothing.
use mathlib.Core.Path.{◌≡◌, refl, sym, ap, ◌∙◌}
use Prim.Native.Nat.{ℕ, zero, suc, ◌+◌, ◌-◌, ◌≤◌, ◌<◌}
use native.Mathlib.Omega.{arith}
use mathlib.Core.Bool.{Bool, true, false}
use mathlib.Core.List.{List, ◌∷◌, map}
use lib.ListN.{length, drop, take, length-map, length-append}
use lib.Dec.{ltb}
use borrow.Author.Tests.{lt-ltb, le-ltb, ltb-false}
use lib.Seq.{drop-drop}
use Rattle.fields.specs.Lists.{kept}
use Rattle.fields.specs.Bytes.{Bytes, part, pieces}
use Rattle.fields.specs.Checks.{fail_if, then, Verdict, Passes, Fails}
use Rattle.fields.proofs.ListLaws.{all_of, kept_map, map-map, map_same}
use Rattle.lasfile.specs.Records.{front_size, record_of, record_at, places, walk}
use Rattle.lasfile.specs.FileChecks.{file_verdict}
use Rattle.lasfile.proofs.vlr.RecordLaws.{record_cut}
use Rattle.sheet.specs.Sheet.{sheet_verdict}
use Rattle.lasfile.specs.HeaderFields.{header_size, point_offset, record_count, format, record_length, point_count}
use Rattle.sheet.specs.Keeping.{keeps_point}
use Rattle.publicpart.specs.Public.{carried_of, sheet_keeps, public_of}
use Rattle.publicpart.specs.declared.Span.{Span}
use Rattle.publicpart.specs.Cutting.{Lines, Refused, span, named, payload_line, payload_lines, strides, piece_lines, record_lines, point_lines, cutting_lines, fill, list_verdict, list_under, cutting_list, kept_together, record_named, public_by, fill_unless, by_list_under, release_by_list}
use Rattle.publicpart.specs.Release.{Outcome, refuse_or, short_or, room_or, release}
use Rattle.publicpart.specs.Render.{render}
use Rattle.publicpart.specs.Release as answer
use Rattle.publicpart.proofs.PublicLaws.{contents_records, contents_points, public_carried, public_records, public_points}

module _ (s : Bytes) where
  -- ---- records of one length

  -- the pieces from a place on, by their places
  strides-pieces : (len n at : ℕ) → pieces n len (drop at s) ≡ map (λ a. part a len s) (strides len n at)
  unfolding pieces strides part
  strides-pieces len zero at = refl
  strides-pieces len (suc n) at =
      rw (drop-drop len at s) (ap (λ (r : List Bytes). take len (drop at s) ∷ r) (strides-pieces len n (at + len)))

  -- those that pass a test, and the lines that name them
  pub pieces_by_place : (keep : Bytes → Bool) (len n at : ℕ)
      → kept keep (pieces n len (drop at s)) ≡ map (λ a. part a len s) (kept (λ a. keep (part a len s)) (strides len n at))
  pieces_by_place keep len n at = ap (kept keep) (strides-pieces len n at) ∙ kept_map (λ a. part a len s) keep (strides len n at)

  pub piece_lines_name : (keep : Bytes → Bool) (len n at : ℕ) → map (named s) (piece_lines keep s len n at) ≡ kept keep (pieces n len (drop at s))
  unfolding piece_lines named
  piece_lines_name keep len n at = map-map (λ a. span a len) (named s) (kept (λ a. keep (part a len s)) (strides len n at)) ∙ sym (pieces_by_place keep len n at)

  -- ---- payloads of records

  module _ (sheet : Bytes) where
    abbrev keep_at : ℕ → Bool
    keep_at a = sheet_keeps sheet (record_at 2 s a)

    -- the kept records of a walk, by their places
    pub records_by_place : (n at : ℕ) → kept (sheet_keeps sheet) (walk 2 n at s) ≡ map (record_at 2 s) (kept keep_at (places 2 n at s))
    unfolding walk
    records_by_place n at = kept_map (record_at 2 s) (sheet_keeps sheet) (places 2 n at s)

    payload_named : (a : ℕ) → named s (payload_line s a) ≡ (record_at 2 s a).payload
    unfolding named payload_line record_of part
    payload_named a = rw (drop-drop (front_size 2) a s)

    pub payload_lines_name : (n at : ℕ) → map (named s) (payload_lines sheet s n at) ≡ map (λ r. r.payload) (kept (sheet_keeps sheet) (walk 2 n at s))
    unfolding payload_lines
    payload_lines_name n at =
        let ks : List ℕ = kept keep_at (places 2 n at s) in
        map-map (payload_line s) (named s) ks
        ∙ map_same (λ a. named s (payload_line s a)) (λ a. (record_at 2 s a).payload) ks (all_of _ ks payload_named)
        ∙ sym (map-map (record_at 2 s) (λ r. r.payload) ks)
        ∙ sym (ap (map (λ r. r.payload)) (records_by_place n at))

-- ---- of a file under a sheet

module _ (sheet s : Bytes) where
  records_are : (public_of sheet s).records ≡ kept (sheet_keeps sheet) (walk 2 (record_count s) (header_size s) s)
  records_are = public_records sheet s ∙ ap (kept (sheet_keeps sheet)) (contents_records s)

  points_are : (public_of sheet s).points ≡ kept (keeps_point sheet (format s)) (pieces (point_count s) (record_length s) (drop (point_offset s) s))
  points_are = public_points sheet s ∙ ap (kept (keeps_point sheet (format s))) (contents_points s)

  -- what the lines name, one by one
  pub record_lines_name : map (named s) (record_lines sheet s) ≡ map (λ r. r.payload) (public_of sheet s).records
  unfolding record_lines
  record_lines_name = rw records_are (payload_lines_name s sheet (record_count s) (header_size s))

  pub point_lines_name : map (named s) (point_lines sheet s) ≡ (public_of sheet s).points
  unfolding point_lines
  point_lines_name = rw points_are (piece_lines_name s (keeps_point sheet (format s)) (record_length s) (point_count s) (point_offset s))

  -- and how many they are
  pub length-record_lines : length (record_lines sheet s) ≡ length (public_of sheet s).records
  length-record_lines = sym (length-map (record_lines sheet s) (named s)) ∙ ap length record_lines_name ∙ length-map (public_of sheet s).records (λ r. r.payload)

  pub length-point_lines : length (point_lines sheet s) ≡ length (public_of sheet s).points
  length-point_lines = sym (length-map (point_lines sheet s) (named s)) ∙ ap length point_lines_name

  pub length-cutting_lines : length (cutting_lines sheet s) ≡ kept_together (public_of sheet s)
  unfolding cutting_lines
  length-cutting_lines = rw (length-append, length-record_lines, length-point_lines)

-- ---- answers of a cutting list

module _ (sheet s : Bytes) (list : List Span) where
  module _ (file_good : file_verdict s ≡ Passes) where
    pub list_by_sheet : (n : ℕ) → sheet_verdict sheet ≡ Fails n → cutting_list sheet s list ≡ (Refused n, list)
    unfolding cutting_list list_verdict list_under then
    list_by_sheet n e = rw (file_good, e)

    module _ (sheet_good : sheet_verdict sheet ≡ Passes) where
      abbrev lines : ℕ
      lines = kept_together (public_of sheet s)

      pub list_short : length list < lines → cutting_list sheet s list ≡ (Refused 31, list)
      unfolding cutting_list list_verdict list_under then fail_if
      list_short h = rw (file_good, sheet_good, lt-ltb (length list) lines h)

      pub list_long : lines ≤ length list → cutting_list sheet s list ≡ (Lines (length (cutting_lines sheet s)), fill (cutting_lines sheet s) list)
      unfolding cutting_list list_verdict list_under then fail_if
      list_long h = rw (file_good, sheet_good, le-ltb (length list) lines h)

-- what a verdict says that lets a list pass
pub record Listable (sheet s : Bytes) (room : ℕ) : Type 0 where
  pub file_passes : file_verdict s ≡ Passes
  pub sheet_passes : sheet_verdict sheet ≡ Passes
  pub room_for : length (cutting_lines sheet s) ≤ room

clear : (x y : Verdict) (b : Bool) → then (then x y) (fail_if b 31 Passes) ≡ Passes → (x ≡ Passes) × (y ≡ Passes) × (b ≡ false)
unfolding then fail_if
clear (Fails n) y b e = let z : ◌≡◌ {A = ℕ} 0 1 = cc in absurd (omega arith)
clear Passes (Fails n) b e = let z : ◌≡◌ {A = ℕ} 0 1 = cc in absurd (omega arith)
clear Passes Passes true e = let z : ◌≡◌ {A = ℕ} 0 1 = cc in absurd (omega arith)
clear Passes Passes false e = (refl, refl, refl)

pub listable : (sheet s : Bytes) (room : ℕ) → list_verdict sheet s room ≡ Passes → Listable sheet s room
unfolding list_verdict
listable sheet s room e =
    let enough : ℕ = kept_together (public_of sheet s) in
    let h = clear (file_verdict s) (sheet_verdict sheet) (ltb room enough) e in
    record { file_passes = h.0; sheet_passes = h.1; room_for = omega (arith, length-cutting_lines sheet s, ltb-false room enough h.2) }

-- the verdict, from what is answered
lines_under : (v : Verdict) (lines list : List Span) (n : ℕ) → Lines n ≡ (list_under v lines list).0 → (v ≡ Passes) × (n ≡ length lines)
unfolding list_under
lines_under (Fails m) lines list n e = let z : ◌≡◌ {A = ℕ} 0 1 = cc in absurd (omega arith)
lines_under Passes lines list n e = (refl, cc)

refused_under : (v : Verdict) (lines list : List Span) (n : ℕ) → Refused n ≡ (list_under v lines list).0 → v ≡ Fails n
unfolding list_under
refused_under (Fails m) lines list n e = let f : m ≡ n = cc in ap Fails f
refused_under Passes lines list n e = let z : ◌≡◌ {A = ℕ} 0 1 = cc in absurd (omega arith)

pub lines_said : (sheet s : Bytes) (list : List Span) (n : ℕ) → Lines n ≡ (cutting_list sheet s list).0
    → (list_verdict sheet s (length list) ≡ Passes) × (n ≡ length (cutting_lines sheet s))
unfolding cutting_list
lines_said sheet s list n e = lines_under (list_verdict sheet s (length list)) (cutting_lines sheet s) list n e

pub refused_said : (sheet s : Bytes) (list : List Span) (n : ℕ) → Refused n ≡ (cutting_list sheet s list).0 → list_verdict sheet s (length list) ≡ Fails n
unfolding cutting_list
refused_said sheet s list n e = refused_under (list_verdict sheet s (length list)) (cutting_lines sheet s) list n e

-- ---- the release that is written from it

-- the record of a payload's line
record_named_lem : (s : Bytes) (a : ℕ) → record_named s (payload_line s a) ≡ record_at 2 s a
unfolding record_named payload_line part
record_named_lem s a = let e : a + front_size 2 - front_size 2 ≡ a = omega arith in rw e (record_cut 2 (drop a s))

pub payload_records : (sheet s : Bytes) (n at : ℕ) → map (record_named s) (payload_lines sheet s n at) ≡ kept (sheet_keeps sheet) (walk 2 n at s)
unfolding payload_lines
payload_records sheet s n at =
    let ks : List ℕ = kept (λ a. sheet_keeps sheet (record_at 2 s a)) (places 2 n at s) in
    map-map (payload_line s) (record_named s) ks
    ∙ map_same (λ a. record_named s (payload_line s a)) (record_at 2 s) ks (all_of _ ks (record_named_lem s))
    ∙ sym (records_by_place s sheet n at)

-- what the cutting list says of a file is its public part
pub public_by_lines : (sheet s : Bytes) → public_by s (record_lines sheet s) (point_lines sheet s) ≡ public_of sheet s
unfolding public_by record_lines
public_by_lines sheet s =
    let carried : carried_of s ≡ (public_of sheet s).carried = sym (public_carried sheet s) in
    let records : map (record_named s) (payload_lines sheet s (record_count s) (header_size s)) ≡ (public_of sheet s).records =
    payload_records sheet s (record_count s) (header_size s) ∙ sym (records_are sheet s) in
    let points : map (named s) (point_lines sheet s) ≡ (public_of sheet s).points = point_lines_name sheet s in
    λ i. record { carried = carried i; records = records i; points = points i }

module _ (sheet s out : Bytes) (list : List Span) where
  -- the definition, over the public part
  pub by_list_is : release_by_list sheet s out list
      ≡ by_list_under (list_verdict sheet s (length list)) out list
      (room_or (public_of sheet s) out, fill_unless (ltb (length out) (length (render (public_of sheet s)))) (cutting_lines sheet s) list)
  unfolding release_by_list
  by_list_is = rw (public_by_lines sheet s)

  as_released : (x y : Verdict) (short? : Bool) (later : Outcome) (after : List Span)
      → (x ≡ Passes → y ≡ Passes → short? ≡ false) → (by_list_under (then (then x y) (fail_if short? 31 Passes)) out list (later, after)).0 ≡ refuse_or (then x y) out later
  unfolding by_list_under then fail_if refuse_or
  as_released (Fails n) y b later after h = refl
  as_released Passes (Fails n) b later after h = refl
  as_released Passes Passes b later after h = rw (h refl refl)

  under_same : (file_verdict s ≡ Passes → sheet_verdict sheet ≡ Passes → kept_together (public_of sheet s) ≤ length list) → (later : Outcome) (after : List Span)
      → (by_list_under (list_verdict sheet s (length list)) out list (later, after)).0 ≡ refuse_or (then (file_verdict s) (sheet_verdict sheet)) out later
  unfolding list_verdict
  under_same h later after =
      as_released (file_verdict s) (sheet_verdict sheet) (ltb (length list) (kept_together (public_of sheet s))) later after (λ e f. le-ltb (length list) (kept_together (public_of sheet s)) (h e f))

  -- where the list is long enough, answer and output are those of a release; a file or sheet that is refused asks for
  -- none
  pub by_list_same : (file_verdict s ≡ Passes → sheet_verdict sheet ≡ Passes → kept_together (public_of sheet s) ≤ length list)
      → (release_by_list sheet s out list).0 ≡ release sheet s out
  unfolding release
  by_list_same h = ap (λ o. o.0) by_list_is ∙ under_same h (room_or (public_of sheet s) out) _

  -- its two cases by the list
  pub by_list_refused : (n : ℕ) → list_verdict sheet s (length list) ≡ Fails n → release_by_list sheet s out list ≡ ((answer.Refused n, out), list)
  unfolding release_by_list by_list_under
  by_list_refused n e = rw e

  pub by_list_passed : list_verdict sheet s (length list) ≡ Passes
      → release_by_list sheet s out list ≡ (room_or (public_of sheet s) out, fill_unless (ltb (length out) (length (render (public_of sheet s)))) (cutting_lines sheet s) list)
  unfolding by_list_under
  by_list_passed e = rw (by_list_is, e)

  -- an accepted one had a list that was long enough, and leaves the cutting list at its front
  accepted_under : (v : Verdict) (later : Outcome × List Span) (n q r : ℕ) → (by_list_under v out list later).0.0 ≡ answer.Released n q r → v ≡ Passes
  unfolding by_list_under
  accepted_under (Fails c) later n q r e = let z : ◌≡◌ {A = ℕ} 0 1 = cc in absurd (omega arith)
  accepted_under Passes later n q r e = refl

  filled_under : (b : Bool) (m : ℕ) (o : Outcome) (lines : List Span) (n q r : ℕ) → (short_or b m out o).0 ≡ answer.Released n q r
      → fill_unless b lines list ≡ fill lines list
  unfolding short_or fill_unless
  filled_under true m o lines n q r e = let z : ◌≡◌ {A = ℕ} 0 1 = cc in absurd (omega arith)
  filled_under false m o lines n q r e = refl

  module _ (n q r : ℕ) (accepted : (release_by_list sheet s out list).0.0 ≡ answer.Released n q r) where
    pub by_list_listable : list_verdict sheet s (length list) ≡ Passes
    unfolding release_by_list
    by_list_listable = accepted_under (list_verdict sheet s (length list)) _ n q r accepted

    pub by_list_filled : (release_by_list sheet s out list).1 ≡ fill (cutting_lines sheet s) list
    unfolding room_or
    by_list_filled =
        let all = by_list_passed by_list_listable in
        ap (λ o. o.1) all
        ∙ filled_under (ltb (length out) (length (render (public_of sheet s)))) _ _ (cutting_lines sheet s) n q r (sym (ap (λ o. o.0.0) all) ∙ accepted)
