-- Laws of the kept points of a file: how many they can be, what room they take, and the part of an output that was lent
-- for them and is back.
-- Assumes nothing.
use mathlib.Core.Path.{◌≡◌, refl, sym, ap, ◌∙◌}
use Prim.Native.Nat.{ℕ, zero, suc, ◌+◌, ◌-◌, ◌*◌, ◌≤◌, ◌<◌}
use native.Mathlib.Nat.{mul-le-mul_right}
use native.Mathlib.Omega.{arith}
use mathlib.Core.Bool.{Bool, true, false, cond}
use mathlib.Core.List.{List, [], ◌++◌, append-nil}
use lib.ListN.{length, take, drop, length-drop, drop_of_length-le}
use lib.Dec.{leb}
use Rattle.release.specs.declared.kept_points.Keeper.{Keeper}
use borrow.Author.Tests.{leb-true, le-leb, lt-leb}
use Rattle.fields.specs.Lists.{list_if, kept}
use Rattle.fields.specs.Bytes.{Bytes, join, pieces, zeros}
use Rattle.fields.proofs.ByteLaws.{length-pieces}
use Rattle.fields.proofs.ListLaws.{length-kept}
use Rattle.fields.proofs.StoreLaws.{tail_part}
use Rattle.lasfile.specs.HeaderFields.{point_offset, format, record_length, point_count}
use Rattle.points.specs.Raw.{in_run, points_of}
use Rattle.sheet.specs.Boxes.{keeps_by}
use Rattle.release.specs.Assembly.{kept_in, end_of_points, room_asked, RoomFor, with_points}
use Rattle.release.specs.declared.run.Points.{Points}
use Rattle.release.specs.Blocks.{records_of}
use Rattle.release.specs.KeptPoints.{kept_points, kept_of}
use Rattle.release.proofs.kept_points.RunLaws.{none_left}

-- ---- how many

few_held : (b : Bool) (count len : ℕ) (run : Bytes) → length (list_if b (pieces count len run)) ≤ count
unfolding list_if
few_held true count len run = omega (arith, length-pieces count len run)
few_held false count len run = omega arith

few_points : (count len : ℕ) (run : Bytes) → length (points_of count len run) ≤ count
unfolding points_of
few_points count len run = few_held (in_run count len (length run)) count len run

module _ (keeper : Keeper) (s : Bytes) where
  pub kept_in_lem : kept_in keeper s ≡ kept_points (keeps_by keeper.table keeper.boxes (format s)) (point_count s) (record_length s) (drop (point_offset s) s)
  unfolding kept_in
  kept_in_lem = refl

  -- as a run
  pub kept_of_file : (p : Points) → records_of p ≡ points_of (point_count s) (record_length s) (drop (point_offset s) s) → p.format ≡ format s
      → kept_of (keeps_by keeper.table keeper.boxes p.format) p ≡ kept_in keeper s
  unfolding kept_in kept_points
  kept_of_file p e f =
      ap (λ (g : ℕ). kept (keeps_by keeper.table keeper.boxes g) (records_of p)) f ∙ ap (kept (keeps_by keeper.table keeper.boxes (format s))) e

  module _ (p : Points) (e : records_of p ≡ points_of (point_count s) (record_length s) (drop (point_offset s) s)) (f : p.format ≡ format s)
      (size : 0 < p.count → p.record_length ≡ record_length s) where
    by_count : (n : ℕ) → p.count ≡ n → length (kept_in keeper s) * p.record_length ≡ length (kept_in keeper s) * record_length s
    by_count zero z =
        let none : kept_in keeper s ≡ [] = sym (kept_of_file p e f) ∙ none_left (keeps_by keeper.table keeper.boxes p.format) p z in
        rw none (omega arith)
    by_count (suc n) z = ap (λ (w : ℕ). length (kept_in keeper s) * w) (size (omega (arith, z)))

    -- by the width of either
    pub same_width : length (kept_of (keeps_by keeper.table keeper.boxes p.format) p) * p.record_length ≡ length (kept_in keeper s) * record_length s
    same_width = ap (λ (l : List Bytes). length l * p.record_length) (kept_of_file p e f) ∙ by_count p.count refl

  few_kept : length (kept_in keeper s) ≤ point_count s
  unfolding kept_in kept_points
  few_kept =
      let ps : List Bytes = points_of (point_count s) (record_length s) (drop (point_offset s) s) in
      omega (arith, length-kept (keeps_by keeper.table keeper.boxes (format s)) ps, few_points (point_count s) (record_length s) (drop (point_offset s) s))

  -- ---- what room they take

  module _ (start : ℕ) where
    pub points_end : end_of_points keeper s start ≡ start + length (kept_in keeper s) * record_length s
    unfolding end_of_points
    points_end = refl

    -- no more than all the points of the file
    pub end_most : end_of_points keeper s start ≤ start + point_count s * record_length s
    end_most = omega (arith, points_end, mul-le-mul_right (record_length s) few_kept)

    module _ (room : ℕ) where
      abbrev most : ℕ
      most = start + point_count s * record_length s

      -- what is asked for where there is room for all, and where the kept ones are counted
      pub asked_most : most ≤ room → most ≡ room_asked keeper s start room
      unfolding room_asked
      asked_most h = rw (le-leb most room h)

      pub asked_counted : room < most → end_of_points keeper s start ≡ room_asked keeper s start room
      unfolding room_asked
      asked_counted h = rw (lt-leb most room h)

      by_test : (b : Bool) → leb most room ≡ b → cond b most (end_of_points keeper s start) ≤ room → RoomFor keeper s start room
      by_test true e h = omega (arith, h, end_most)
      by_test false e h = h

      -- an output that has the room that is asked for has room for the kept points
      pub asked_enough : room_asked keeper s start room ≤ room → RoomFor keeper s start room
      unfolding room_asked
      asked_enough h = by_test (leb most room) refl h

      -- one that has not is asked for exactly what they take
      short_by : (b : Bool) → leb most room ≡ b → room < cond b most (end_of_points keeper s start) → cond b most (end_of_points keeper s start) ≡ end_of_points keeper s start
      short_by true e h = absurd (omega (arith, leb-true most room e))
      short_by false e h = refl

      pub asked_short : room < room_asked keeper s start room → room_asked keeper s start room ≡ end_of_points keeper s start
      unfolding room_asked
      asked_short h = short_by (leb most room) refl h

  -- ---- the part of an output that is lent

  module _ (start : ℕ) (out : Bytes) where
    pub with_points_lem : with_points keeper s start out ≡ take start out ++ take (length out - start) (join (kept_in keeper s) ++ zeros (length out - start))
    unfolding with_points
    with_points_lem = refl

    abbrev lent : Bytes
    lent = take (length out - start) (drop start out)

    pub points_back : (ys : Bytes) → ys ≡ take (length lent) (join (kept_in keeper s) ++ zeros (length lent))
        → take start out ++ (ys ++ drop (length out - start) (drop start out)) ≡ with_points keeper s start out
    points_back ys e =
        let none : drop (length out - start) (drop start out) ≡ [] = drop_of_length-le (drop start out) {i = length out - start} (simp length-drop (omega arith)) in
        rw (with_points_lem, e, none, append-nil, tail_part out start, length-drop start out)
