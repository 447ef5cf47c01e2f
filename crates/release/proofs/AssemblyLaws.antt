-- What is written of a file that passes is the released file and zeros, and the numbers that are returned are the
-- public part's.
-- Assumes nothing.
use mathlib.Core.Path.{◌≡◌, refl, sym, ap, ◌∙◌}
use Prim.Native.Nat.{ℕ, ◌+◌, ◌-◌, ◌*◌, ◌≤◌}
use native.Mathlib.Omega.{arith}
use mathlib.Core.List.{List, [], ◌∷◌, ◌++◌, append_assoc}
use lib.ListN.{length, take, drop, length-append, length-drop, length-replicate, replicate-append-replicate}
use Rattle.release.specs.declared.kept_points.Keeper.{Keeper}
use lib.Seq.{sets, sets-eq, length-sets, length-take-le, get_or-drop, take_at, drop_at, take-append-add}
use Rattle.fields.specs.Lists.{All, total}
use Rattle.fields.specs.Bytes.{Bytes, AllBytes, zeros, join, pieces}
use Rattle.fields.specs.Checks.{Passes}
use Rattle.fields.proofs.ByteLaws.{pieces_bytes, length-join_pieces}
use Rattle.fields.proofs.ListLaws.{kept_same}
use Rattle.points.proofs.formats.FormatLaws.{shared_first}
use Rattle.scaling.specs.Scaling.{scaling_in, scaling_of}
use Rattle.lasfile.specs.Records.{written_length, records_bytes}
use Rattle.lasfile.proofs.vlr.RecordLaws.{length-records_bytes}
use Rattle.lasfile.proofs.header.FieldLaws.{count_low}
use Rattle.lasfile.specs.HeaderFields.{header_block, point_offset, point_count, record_length, format}
use Rattle.lasfile.specs.FileChecks.{file_verdict}
use Rattle.lasfile.proofs.Passed.{passed}
use Rattle.sheet.specs.Keeping.{keeps_point, TableOf}
use Rattle.sheet.specs.Boxes.{BoxesOf, keeps_by}
use Rattle.points.proofs.raw.RunLaws.{InRun}
use Rattle.tally.specs.Tally.{tally_of}
use Rattle.tally.proofs.TallyLaws.{tally_count, tally_bins}
use Rattle.tally.proofs.BoundsLaws.{tally_bounds_lem}
use Rattle.publicpart.specs.Public.{Public, contents, public_of}
use Rattle.publicpart.specs.Head.{Head, head_fields}
use Rattle.publicpart.specs.Render.{new_offset, head_of, render}
use Rattle.publicpart.proofs.Sound.{Sound, sound, sound_restrict}
use Rattle.publicpart.proofs.PublicLaws.{carried_format, carried_length, carried_scaled, contents_points, public_is, public_carried, public_points}
use Rattle.publicpart.proofs.HeadLaws.{length_head}
use Rattle.publicpart.proofs.RenderLaws.{new_offset_lem, total_length, render_parts, head_of_lem}
use Rattle.publicpart.proofs.LengthLaws.{room_for_all}
use Rattle.publicpart.proofs.Back.{fitting, length-render}
use Rattle.release.specs.declared.head.HeadTotals.{HeadTotals}
use Rattle.release.specs.Heads.{head_with, head_bytes}
use Rattle.release.proofs.head.HeadLaws.{whole_head}
use Rattle.release.specs.declared.vlrs.KeptRecords.{KeptRecords}
use Rattle.release.specs.KeptRecords.{measured}
use Rattle.sheet.proofs.boxes.BoxLaws.{keeps_by_lem}
use Rattle.release.specs.Assembly.{kept_in, end_of_points, totals_of, with_points, written}
use Rattle.release.proofs.kept_points.KeptPointLaws.{kept_held}
use Rattle.release.proofs.assembly.PointLaws.{kept_in_lem, points_end, with_points_lem}
use Rattle.release.proofs.assembly.WrittenLaws.{head_said, written_is}

-- zeros behind a run, as far as there is room
zeros_behind : (xs : Bytes) (k : ℕ) → length xs ≤ k → take k (xs ++ zeros k) ≡ xs ++ zeros (k - length xs)
zeros_behind xs k h =
    let n : ℕ = k - length xs in
    let in_two : zeros k ≡ zeros n ++ zeros (length xs) =
    let e : n + length xs ≡ k = omega arith in sym (replicate-append-replicate n (length xs) 0 ∙ ap zeros e) in
    let room : k ≡ length xs + n = omega arith in
    ap (λ (j : ℕ). take j (xs ++ zeros k)) room
    ∙ take-append-add xs (zeros k) n
    ∙ ap (λ (r : Bytes). xs ++ r) (ap (take n) in_two ∙ take_at (zeros n) (zeros (length xs)) n (length-replicate n 0))

-- a front, stored over
over_front : (x y h : Bytes) → length x ≡ length h → sets (x ++ y) 0 h ≡ h ++ y
over_front x y h e =
    let z : 0 + length h ≡ length h = omega arith in
    sets-eq h (x ++ y) 0 (omega (arith, length-append x y)) ∙ rw z (ap (λ (r : Bytes). h ++ r) (drop_at x y (length h) e))

module _ (sheet s : Bytes) (bytes : AllBytes s) (passes : file_verdict s ≡ Passes) where
  abbrev pub part_of : Public
  part_of = public_of sheet s

  abbrev run : Bytes
  run = drop (point_offset s) s

  -- ---- what the definitions say of the file

  pub sound_part : Sound part_of
  sound_part = rw (public_is sheet s) (sound_restrict sheet (contents s) (sound s bytes (passed s passes)))

  format_is : part_of.carried.format ≡ format s
  format_is = rw (public_carried sheet s) (carried_format s)

  pub length_is : part_of.carried.record_length ≡ record_length s
  length_is = rw (public_carried sheet s) (carried_length s)

  scaling_is : scaling_in part_of.carried.scaling ≡ scaling_of s
  scaling_is = rw (public_carried sheet s) (carried_scaled s)

  -- the three parts of the released file, and their lengths
  abbrev head : Bytes
  head = join (head_fields (head_of part_of))

  abbrev pub records : Bytes
  records = records_bytes 2 part_of.records

  abbrev pub points : Bytes
  points = join part_of.points

  length_of_head : length head ≡ header_block
  length_of_head = length_head (head_of part_of) (fitting part_of sound_part)

  pub length_of_records : length records ≡ total (written_length 2) part_of.records
  length_of_records = length-records_bytes 2 part_of.records sound_part.records

  pub length_of_points : length points ≡ length part_of.points * record_length s
  length_of_points = rw (← length_is) (length-join_pieces part_of.carried.record_length part_of.points sound_part.points)

  -- the length of the released file
  pub render-length : length (render part_of) ≡ new_offset part_of + length part_of.points * record_length s
  render-length = length-render part_of sound_part ∙ rw (total_length part_of, length_is)

  pub long : 20 ≤ record_length s
  long = omega (arith, shared_first (format s) (passed s passes).formatted, (passed s passes).record_low)

  -- ---- the header is that of the public part's points

  abbrev pub own : HeadTotals
  own = totals_of s (tally_of (format s) part_of.points) (length part_of.records) (new_offset part_of)

  head_is : head_with s own ≡ head_of part_of
  head_is =
      let ps : List Bytes = part_of.points in
      rw (head_said s (tally_of (format s) ps) (length part_of.records) (new_offset part_of))
      (head_of_lem part_of _ (sym (public_carried sheet s)) refl refl (tally_count (format s) ps) (rw format_is (tally_bins (format s) ps))
      (rw scaling_is (tally_bounds_lem (format s) (scaling_of s) ps)))

  own-head : head_bytes s own ≡ head
  own-head = whole_head s own (passed s passes).whole ∙ ap (λ (k : Head). join (head_fields k)) head_is

  pub offset_is : new_offset part_of ≡ header_block + length records
  offset_is = omega (arith, new_offset_lem part_of, length_of_records)

  -- ---- an output that has room for the released file

  module _ (out : Bytes) (room : length (render part_of) ≤ length out) where
    -- zeros behind it
    abbrev pub z : Bytes
    z = zeros (length out - length (render part_of))

    -- where the header goes
    abbrev pub front : Bytes
    front = take header_block out

    pub length_front : length front ≡ header_block
    length_front = length-take-le header_block out (omega (arith, render-length, offset_is))

    length_both : length (front ++ records) ≡ new_offset part_of
    length_both = omega (arith, length-append front records, length_front, offset_is)

    -- the header over the front of records, points and zeros
    pub headed : sets ((front ++ records) ++ (points ++ z)) 0 (head_bytes s own) ≡ render part_of ++ z
    headed =
        rw (own-head, append_assoc front records (points ++ z))
        (over_front front (records ++ (points ++ z)) head (length_front ∙ sym length_of_head) ∙ sym (render_parts part_of z))

  module _ (keeper : Keeper) (right : TableOf sheet (format s) keeper.table) (read : BoxesOf sheet keeper.boxes) where
    -- the points that the sheet keeps are kept
    by_table : (ps : List Bytes) → All AllBytes ps → All (λ p. keeps_by keeper.table keeper.boxes (format s) p ≡ keeps_point sheet (format s) p) ps
    by_table [] h = tt
    by_table (p ∷ ps) h = (keeps_by_lem sheet (format s) keeper.table keeper.boxes right read p h.0, by_table ps h.1)

    run_bytes : AllBytes run
    run_bytes i = rw get_or-drop (bytes (point_offset s + i))

    held : InRun (point_count s) (record_length s) (length run)
    held = record { long = long; few = count_low s bytes; within = simp length-drop (omega (arith, (passed s passes).pointed)) }

    pub points_are : kept_in keeper s ≡ part_of.points
    points_are =
        rw (kept_in_lem keeper s, public_points sheet s, contents_points s)
        (kept_held (keeps_by keeper.table keeper.boxes (format s)) (point_count s) (record_length s) run held
        ∙ kept_same (keeps_by keeper.table keeper.boxes (format s)) (keeps_point sheet (format s)) (pieces (point_count s) (record_length s) run)
        (by_table (pieces (point_count s) (record_length s) run) (pieces_bytes (point_count s) (record_length s) run run_bytes)))

    module _ (out : Bytes) (room : length (render part_of) ≤ length out) where
      records_stored : take (new_offset part_of) (sets out header_block records) ≡ front out room ++ records
      records_stored =
          rw (sets-eq records out header_block (omega (arith, render-length, offset_is)))
          (take_at (front out room ++ records) (drop (header_block + length records) out) (new_offset part_of) (length_both out room))

      points_stored : with_points keeper s (new_offset part_of) (sets out header_block records) ≡ (front out room ++ records) ++ (points ++ z out room)
      points_stored =
          let n : length out - new_offset part_of - length points ≡ length out - length (render part_of) = omega (arith, render-length, length_of_points) in
          rw (with_points_lem, records_stored, length-sets, points_are, zeros_behind points (length out - new_offset part_of) (omega (arith, render-length, length_of_points)), n)

      -- records, points and zeros at their places, and the header over the front
      pub assembled : written sheet s keeper (length part_of.records) (new_offset part_of) out ≡ render part_of ++ z out room
      assembled = rw (written_is, points_stored, points_are) (headed out room)

-- what was measured, over the released file
pub record Sized (sheet s : Bytes) (keeper : Keeper) (k : KeptRecords) : Type 0 where
  pub offset : k.end ≡ new_offset (public_of sheet s)
  pub needed : end_of_points keeper s k.end ≡ length (render (public_of sheet s))
  pub points : length (kept_in keeper s) ≡ length (public_of sheet s).points
  pub records : k.count ≡ length (public_of sheet s).records
  pub most : k.end + point_count s * record_length s ≤ length s

pub sized : (sheet s : Bytes) → AllBytes s → file_verdict s ≡ Passes → (keeper : Keeper) → TableOf sheet (format s) keeper.table
    → BoxesOf sheet keeper.boxes → (k : KeptRecords) → k ≡ measured (public_of sheet s).records → Sized sheet s keeper k
unfolding measured
sized sheet s bytes passes keeper right read k m =
    let points : length (kept_in keeper s) ≡ length (public_of sheet s).points = ap length (points_are sheet s bytes passes keeper right read) in
    let offset : k.end ≡ new_offset (public_of sheet s) = rw (new_offset_lem (public_of sheet s)) (ap (λ (r : KeptRecords). r.end) m) in
    record {
      offset = offset;
      needed = rw (points_end, offset, points) (sym (render-length sheet s bytes passes));
      points = points;
      records = ap (λ (r : KeptRecords). r.count) m;
      most = rw offset (room_for_all s bytes (passed s passes) sheet);
    }
