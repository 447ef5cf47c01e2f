-- The bytes of the fields that a record was read as are the record's own, up to the format's size.
-- Assumes nothing.
use mathlib.Core.Path.{◌≡◌, refl, sym, ap, ◌∙◌}
use Prim.Native.Nat.{ℕ, ◌+◌, ◌^◌, ◌≤◌, ◌<◌}
use native.Mathlib.Omega.{arith}
use mathlib.Core.List.{List, [], ◌∷◌, ◌++◌}
use lib.ListN.{length, take, drop, get_or}
use lib.Seq.{take-add, drop-drop}
use mir.Syntax.{Width, w8, w32}
use mir.Val.{to_z, of_z, bits as width_bits}
use mir.ValLaws.{of_z-to_z}
use Rattle.std.specs.Prelude.{Option, Some, None}
use Rattle.fields.specs.Lists.{total}
use Rattle.fields.specs.Bytes.{Bytes, AllBytes, part, num, bytes_of, join}
use Rattle.fields.proofs.ByteLaws.{part_bytes, bytes_of-num, num-part-lt, num-part_one, length_part}
use Rattle.points.specs.Formats.{format_size, time_place, colour_place}
use Rattle.points.proofs.formats.FormatLaws.{Follows, width_if, layered}
use Rattle.points.specs.Points.{number_in, point_of}
use Rattle.points.specs.Raw.{bits, class_byte, return_of, stored}
use Rattle.points.proofs.raw.RawLaws.{bit_value, parts_joined}
use Rattle.points.specs.Encoding.{flag_byte, joined_class, shared_fields, if_placed, time_fields, colours, colour_fields, point_bytes}
use Rattle.points.proofs.encoding.LayoutLaws.{shared_widths, bytes_groups}

-- ---- one field

-- the fields of a record, each at its place and width
module _ (s : Bytes) (all : AllBytes s) where
  number_back : (at w : ℕ) → at + w ≤ length s → bytes_of w (num (part at w s)) ≡ part at w s
  number_back at w h = rw (length_part at w s h) at (bytes_of-num (part at w s) (part_bytes at w s all))

  byte_back : (at : ℕ) → at + 1 ≤ length s → bytes_of 1 (get_or s at 0) ≡ part at 1 s
  byte_back at h = rw (← num-part_one at s) (number_back at 1 h)

  signed_back : (w : Width) (at n : ℕ) → 256 ^ n ≡ 2 ^ width_bits w → at + n ≤ length s
      → bytes_of n (of_z w (to_z w (num (part at n s)))) ≡ part at n s
  signed_back w at n e h =
      ap (bytes_of n) (of_z-to_z w (num (part at n s)) (record { fits = rw e at (num-part-lt at n s all) })) ∙ number_back at n h

  placed_back : (at w shift : ℕ) → at + shift + w ≤ length s
      → bytes_of w (number_in w (Some at) shift s) ≡ part (at + shift) w s
  unfolding number_in
  placed_back at w shift h = number_back (at + shift) w h

-- ---- the bytes at 14 and 15

flags_back : (f : ℕ) (s : Bytes) → get_or s 14 0 < 256 → flag_byte (point_of f s) ≡ get_or s 14 0
unfolding flag_byte point_of bits return_of
flags_back f s h = let b = get_or s 14 0 in rw (bit_value 6 b, bit_value 7 b) (omega arith)

class_back : (f : ℕ) (s : Bytes) → get_or s 15 0 < 256 → joined_class f (point_of f s) ≡ get_or s 15 0
unfolding joined_class point_of class_byte
class_back f s h = parts_joined f s h

-- ---- parts back to back

abbrev parts_from : ℕ → List ℕ → Bytes → List Bytes
parts_from at [] s = []
parts_from at (w ∷ ws) s = part at w s ∷ parts_from (at + w) ws s

parts_two : (at v w : ℕ) (s : Bytes) → part at v s ++ part (at + v) w s ≡ part at (v + w) s
unfolding part
parts_two at v w s = rw (← drop-drop v at s) (sym (take-add v w (drop at s)))

join_parts : (at : ℕ) (ws : List ℕ) (s : Bytes) → join (parts_from at ws s) ≡ part at (total (λ n. n) ws) s
unfolding join total part
join_parts at [] s = refl
join_parts at (w ∷ ws) s = rw (join_parts (at + w) ws s) (parts_two at w (total (λ n. n) ws) s)

-- ---- the groups

-- the fields of these widths at a place, one behind another
abbrev numbers_at : ℕ → List ℕ → Option ℕ → Bytes → List Bytes
numbers_at shift [] place s = []
numbers_at shift (w ∷ ws) place s = bytes_of w (number_in w place shift s) ∷ numbers_at (shift + w) ws place s

module _ (s : Bytes) (all : AllBytes s) where
  numbers_parts : (at shift : ℕ) (ws : List ℕ) → at + shift + total (λ n. n) ws ≤ length s
      → numbers_at shift ws (Some at) s ≡ parts_from (at + shift) ws s
  unfolding total
  numbers_parts at shift [] h = refl
  numbers_parts at shift (w ∷ ws) h =
      let e : at + (shift + w) ≡ at + shift + w = omega arith in
      rw (placed_back s all at w shift (omega arith), numbers_parts at (shift + w) ws (omega arith), e)

  -- one law for GPS time and for colour, over the place
  group_back : (place : Option ℕ) (n : ℕ) (ws : List ℕ) → Follows place n
      → n + width_if place (total (λ n. n) ws) ≤ length s
      → join (if_placed place (numbers_at 0 ws place s)) ≡ part n (width_if place (total (λ n. n) ws)) s
  unfolding if_placed join part
  group_back None n ws e h = refl
  group_back (Some at) n ws e h =
      let z : at + 0 ≡ n = omega arith in
      ap join (numbers_parts at 0 ws (omega arith)) ∙ join_parts (at + 0) ws s ∙ ap (λ (k : ℕ). part k (total (λ n. n) ws) s) z

module _ (f : ℕ) (s : Bytes) (all : AllBytes s) where
  flags_part : 20 ≤ length s → bytes_of 1 (flag_byte (point_of f s)) ≡ part 14 1 s
  flags_part h = ap (bytes_of 1) (flags_back f s (all 14)) ∙ byte_back s all 14 (omega arith)

  class_part : 20 ≤ length s → bytes_of 1 (joined_class f (point_of f s)) ≡ part 15 1 s
  class_part h = ap (bytes_of 1) (class_back f s (all 15)) ∙ byte_back s all 15 (omega arith)

  angle_part : 20 ≤ length s → bytes_of 1 (of_z w8 (to_z w8 (get_or s 16 0))) ≡ part 16 1 s
  angle_part h = rw (← num-part_one 16 s) (signed_back s all w8 16 1 refl (omega arith))

  shared_parts : 20 ≤ length s → shared_fields f (point_of f s) ≡ parts_from 0 shared_widths s
  unfolding shared_fields point_of stored
  shared_parts h =
      rw (
        signed_back s all w32 0 4 refl (omega arith),
        signed_back s all w32 4 4 refl (omega arith),
        signed_back s all w32 8 4 refl (omega arith),
        number_back s all 12 2 (omega arith),
        flags_part h,
        class_part h,
        angle_part h,
        byte_back s all 17 (omega arith),
        number_back s all 18 2 (omega arith),
      )

  shared_back : 20 ≤ length s → join (shared_fields f (point_of f s)) ≡ part 0 20 s
  unfolding total
  shared_back h = ap join (shared_parts h) ∙ join_parts 0 shared_widths s

  time_back : 20 + width_if (time_place f) 8 ≤ length s
      → join (time_fields (time_place f) (point_of f s)) ≡ part 20 (width_if (time_place f) 8) s
  unfolding total time_fields point_of
  time_back h = group_back s all (time_place f) 20 (8 ∷ []) (layered f).time h

  colour_back : 20 + width_if (time_place f) 8 + width_if (colour_place f) 6 ≤ length s
      → join (colour_fields (colour_place f) (point_of f s))
      ≡ part (20 + width_if (time_place f) 8) (width_if (colour_place f) 6) s
  unfolding total colour_fields colours point_of
  colour_back h = group_back s all (colour_place f) (20 + width_if (time_place f) 8) (2 ∷ 2 ∷ 2 ∷ []) (layered f).colour h

  pub bytes_back : f ≤ 3 → format_size f ≤ length s → point_bytes f (point_of f s) ≡ take (format_size f) s
  unfolding part
  bytes_back le h =
      let a = width_if (time_place f) 8 in
      let b = width_if (colour_place f) 6 in
      let size : format_size f ≡ 20 + (a + b) = omega (arith, (layered f).size le) in
      bytes_groups f (point_of f s)
      ∙ rw (shared_back (omega arith), time_back (omega arith), colour_back (omega arith), size)
      (ap (λ (r : Bytes). part 0 20 s ++ r) (parts_two 20 a b s) ∙ parts_two 0 20 (a + b) s)
