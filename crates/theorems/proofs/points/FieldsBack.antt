-- The fields of the bytes that a point was written as are the point's, those that the format lacks at 0.
-- Assumes nothing.
use mathlib.Core.Path.{◌≡◌, refl, sym, ap, ◌∙◌}
use Prim.Native.Nat.{ℕ, ◌+◌, ◌^◌, ◌≤◌, ◌<◌}
use native.Mathlib.Omega.{arith}
use mathlib.Core.Bool.{Bool, true, false}
use mathlib.Core.List.{List, [], ◌∷◌, ◌++◌, append_assoc}
use lib.IntN.{ℤ}
use lib.ListN.{length, get_or, length-append}
use lib.Dec.{eqb}
use mir.Syntax.{w8, w32}
use mir.Val.{SFits, to_z, of_z, bool_byte}
use mir.ValLaws.{of_z_fits, to_z-of_z}
use Rattle.std.specs.Prelude.{Option, Some, None}
use Rattle.fields.specs.Bytes.{Bytes, part, num, bytes_of, join, start, Fit}
use Rattle.fields.proofs.ByteLaws.{num-bytes_of, length-bytes_of, num-part_one, part_behind, field_back}
use Rattle.points.specs.Formats.{time_place, colour_place}
use Rattle.points.proofs.formats.FormatLaws.{Follows, width_if, layered}
use Rattle.points.specs.declared.Point.{Point}
use Rattle.points.specs.Points.{number_in, point_of}
use Rattle.points.specs.Raw.{bits, bit, class_in, synthetic_in, key_point_in, withheld_in, class_byte, class_of, synthetic_of, key_point_of, withheld_of, stored, return_of}
use Rattle.points.specs.Encoding.{flag_byte, joined_class, shared_fields, if_placed, time_fields, colours, colour_fields, value_if, blank, InRange}
use Rattle.points.proofs.encoding.LayoutLaws.{shared_widths, shared_fit, length_shared, length_time}

-- a number among fields that were written one behind another
among : (ws : List ℕ) (fs : List Bytes) (rest : Bytes) (i n : ℕ) → Fit ws fs → i < length ws
    → get_or fs i [] ≡ bytes_of (get_or ws i 0) n
    → n < 256 ^ get_or ws i 0 → num (part (start i ws) (get_or ws i 0) (join fs ++ rest)) ≡ n
among ws fs rest i n fit h e small = ap num (field_back ws fs rest i fit h ∙ e) ∙ num-bytes_of (get_or ws i 0) n small

-- the same at a place, over the place: GPS time and colour
placed_among : (place : Option ℕ) (k : ℕ) (x : Bytes) (ws : List ℕ) (fs : List Bytes) (rest : Bytes) (i n : ℕ)
    → Follows place k → length x ≡ k → Fit ws fs
    → i < length ws → get_or fs i [] ≡ bytes_of (get_or ws i 0) n → n < 256 ^ get_or ws i 0
    → number_in (get_or ws i 0) place (start i ws) (x ++ (join (if_placed place fs) ++ rest)) ≡ value_if place n
unfolding number_in value_if if_placed
placed_among None k x ws fs rest i n follows wide fit h e small = refl
placed_among (Some at) k x ws fs rest i n follows wide fit h e small =
    rw (follows, part_behind k (start i ws) (get_or ws i 0) x (join fs ++ rest) wide) (among ws fs rest i n fit h e small)

-- ---- the byte at 14

one_bit : (b : Bool) → bool_byte b ≤ 1
one_bit true = omega arith
one_bit false = omega arith

flag_back : (b : Bool) (n : ℕ) → n ≡ bool_byte b → eqb n 1 ≡ b
flag_back true n e = rw e
flag_back false n e = rw e

module _ (q : Point) (number : q.return_number ≤ 7) (returns : q.returns ≤ 7) where
  flags_small : flag_byte q < 256
  unfolding flag_byte
  flags_small = omega (arith, one_bit q.scan_direction, one_bit q.edge)

  number_bits : bits 0 3 (flag_byte q) ≡ q.return_number
  unfolding flag_byte bits
  number_bits = omega (arith, one_bit q.scan_direction, one_bit q.edge)

  returns_bits : bits 3 3 (flag_byte q) ≡ q.returns
  unfolding flag_byte bits
  returns_bits = omega (arith, one_bit q.scan_direction, one_bit q.edge)

  direction_bit : bits 6 1 (flag_byte q) ≡ bool_byte q.scan_direction
  unfolding flag_byte bits
  direction_bit = omega (arith, one_bit q.scan_direction, one_bit q.edge)

  edge_bit : bits 7 1 (flag_byte q) ≡ bool_byte q.edge
  unfolding flag_byte bits
  edge_bit = omega (arith, one_bit q.scan_direction, one_bit q.edge)

-- ---- the byte at 15

module _ (f : ℕ) (q : Point) (low : q.classification ≤ 31) where
  joined_small : joined_class f q < 256
  unfolding joined_class
  joined_small = omega (arith, one_bit q.synthetic, one_bit q.key_point, one_bit q.withheld)

  class_bits : class_in f (joined_class f q) ≡ q.classification
  unfolding joined_class class_in bits
  class_bits = omega (arith, one_bit q.synthetic, one_bit q.key_point, one_bit q.withheld)

  synthetic_bit : bits 5 1 (joined_class f q) ≡ bool_byte q.synthetic
  unfolding joined_class bits
  synthetic_bit = omega (arith, one_bit q.synthetic, one_bit q.key_point, one_bit q.withheld)

  key_point_bit : bits 6 1 (joined_class f q) ≡ bool_byte q.key_point
  unfolding joined_class bits
  key_point_bit = omega (arith, one_bit q.synthetic, one_bit q.key_point, one_bit q.withheld)

  withheld_bit : bits 7 1 (joined_class f q) ≡ bool_byte q.withheld
  unfolding joined_class bits
  withheld_bit = omega (arith, one_bit q.synthetic, one_bit q.key_point, one_bit q.withheld)

-- ---- the whole point

module _ (f : ℕ) (q : Point) (rest : Bytes) where
  abbrev written : Bytes
  written = join (shared_fields f q) ++ rest

  number : (i n : ℕ) → i < 9 → get_or (shared_fields f q) i [] ≡ bytes_of (get_or shared_widths i 0) n
      → n < 256 ^ get_or shared_widths i 0
      → num (part (start i shared_widths) (get_or shared_widths i 0) written) ≡ n
  number i n h e small = among shared_widths (shared_fields f q) rest i n (shared_fit f q) h e small

  axis : (i : ℕ) (z : ℤ) → SFits w32 z → i < 9
      → get_or (shared_fields f q) i [] ≡ bytes_of (get_or shared_widths i 0) (of_z w32 z)
      → of_z w32 z < 256 ^ get_or shared_widths i 0
      → to_z w32 (num (part (start i shared_widths) (get_or shared_widths i 0) written)) ≡ z
  axis i z f h e small = ap (to_z w32) (number i (of_z w32 z) h e small) ∙ to_z-of_z w32 z f

pub fields_back : (f : ℕ) (q : Point) (rest : Bytes) → InRange q → q.return_number ≤ 7 → q.returns ≤ 7 → q.classification ≤ 31
    → point_of f (join (shared_fields f q) ++ (join (time_fields (time_place f) q) ++ (join (colour_fields (colour_place f) q) ++ rest))) ≡ blank f q
unfolding point_of blank shared_fields time_fields colour_fields colours stored return_of bit class_byte class_of synthetic_of key_point_of withheld_of synthetic_in key_point_in withheld_in
fields_back f q rest r small few low =
    let t = time_place f in
    let k = colour_place f in
    let time = join (time_fields t q) in
    let colour = join (colour_fields k q) in
    let shared = join (shared_fields f q) in
    let s = shared ++ (time ++ (colour ++ rest)) in
    let tail = time ++ (colour ++ rest) in
    let x : to_z w32 (num (part 0 4 s)) ≡ q.x = axis f q tail 0 q.x r.x (omega arith) refl (of_z_fits w32 q.x r.x).fits in
    let y : to_z w32 (num (part 4 4 s)) ≡ q.y = axis f q tail 1 q.y r.y (omega arith) refl (of_z_fits w32 q.y r.y).fits in
    let z : to_z w32 (num (part 8 4 s)) ≡ q.z = axis f q tail 2 q.z r.z (omega arith) refl (of_z_fits w32 q.z r.z).fits in
    let intensity : num (part 12 2 s) ≡ q.intensity = number f q tail 3 q.intensity (omega arith) refl r.intensity in
    let flags : get_or s 14 0 ≡ flag_byte q = sym (num-part_one 14 s) ∙ number f q tail 4 (flag_byte q) (omega arith) refl (flags_small q small few) in
    let class : get_or s 15 0 ≡ joined_class f q = sym (num-part_one 15 s) ∙ number f q tail 5 (joined_class f q) (omega arith) refl (joined_small f q low) in
    let angle : to_z w8 (get_or s 16 0) ≡ q.scan_angle =
    ap (to_z w8) (sym (num-part_one 16 s) ∙ number f q tail 6 (of_z w8 q.scan_angle) (omega arith) refl (of_z_fits w8 q.scan_angle r.scan_angle).fits)
    ∙ to_z-of_z w8 q.scan_angle r.scan_angle in
    let user : get_or s 17 0 ≡ q.user_data = sym (num-part_one 17 s) ∙ number f q tail 7 q.user_data (omega arith) refl r.user_data in
    let source : num (part 18 2 s) ≡ q.source_id = number f q tail 8 q.source_id (omega arith) refl r.source_id in
    let gps : number_in 8 t 0 s ≡ value_if t q.gps_time =
    placed_among t 20 shared (8 ∷ []) _ (colour ++ rest) 0 q.gps_time (layered f).time (length_shared f q) (length-bytes_of 8 _, tt) (omega arith) refl r.gps_time in
    let front : s ≡ (shared ++ time) ++ (colour ++ rest) = sym (append_assoc shared time (colour ++ rest)) in
    let wide : length (shared ++ time) ≡ 20 + width_if t 8 = length-append shared time ∙ rw (length_shared f q, length_time t q) in
    let fit : Fit (2 ∷ 2 ∷ 2 ∷ []) (bytes_of 2 q.red ∷ bytes_of 2 q.green ∷ bytes_of 2 q.blue ∷ []) = (length-bytes_of 2 _, (length-bytes_of 2 _, (length-bytes_of 2 _, tt))) in
    let red : number_in 2 k 0 s ≡ value_if k q.red =
    rw front (placed_among k (20 + width_if t 8) (shared ++ time) (2 ∷ 2 ∷ 2 ∷ []) _ rest 0 q.red (layered f).colour wide fit (omega arith) refl r.red) in
    let green : number_in 2 k 2 s ≡ value_if k q.green =
    rw front (placed_among k (20 + width_if t 8) (shared ++ time) (2 ∷ 2 ∷ 2 ∷ []) _ rest 1 q.green (layered f).colour wide fit (omega arith) refl r.green) in
    let blue : number_in 2 k 4 s ≡ value_if k q.blue =
    rw front (placed_among k (20 + width_if t 8) (shared ++ time) (2 ∷ 2 ∷ 2 ∷ []) _ rest 2 q.blue (layered f).colour wide fit (omega arith) refl r.blue) in
    λ i.
    record {
      x = x i;
      y = y i;
      z = z i;
      intensity = intensity i;
      return_number = (ap (bits 0 3) flags ∙ number_bits q small few) i;
      returns = (ap (bits 3 3) flags ∙ returns_bits q small few) i;
      scan_direction = (ap (bit 6) flags ∙ flag_back q.scan_direction _ (direction_bit q small few)) i;
      edge = (ap (bit 7) flags ∙ flag_back q.edge _ (edge_bit q small few)) i;
      classification = (ap (class_in f) class ∙ class_bits f q low) i;
      scan_angle = angle i;
      user_data = user i;
      source_id = source i;
      gps_time = gps i;
      red = red i;
      green = green i;
      blue = blue i;
      synthetic = (ap (bit 5) class ∙ flag_back q.synthetic _ (synthetic_bit f q low)) i;
      key_point = (ap (bit 6) class ∙ flag_back q.key_point _ (key_point_bit f q low)) i;
      withheld = (ap (bit 7) class ∙ flag_back q.withheld _ (withheld_bit f q low)) i;
    }
