-- The theorems about coordinates: a file that passes has finite coordinates in the order of their stored values, its
-- scales and offsets are carried by their bits, and the exact case is exact. Assumes nothing.
use mathlib.Core.Path.{◌≡◌, refl}
use Prim.Native.Nat.{ℕ, zero, suc, ◌*◌, ◌^◌, ◌≤◌, ◌<◌}
use native.Mathlib.Nat.{mul-le-mul}
use native.Mathlib.Omega.{arith}
use mathlib.Core.Bool.{Bool, true, false, not, ◌&&◌}
use lib.Dec.{T, lit≤}
use lib.Pow.{pow_mono}
use lib.IntN.{ℤ, pos, negsuc, neg_ℤ, nat_abs, ◌+ℤ◌, ◌*ℤ◌}
use lib.Signed.{◌≤ℤ◌}
use lib.Ieee.{Float, nan, inf, fin, binary64, up, down, mul, of_int, to_bits, le, is_nan}
use lib.Ieee.Fits.{and_l, and_r, down_pos}
use lib.Ieee.Bits.{to_bits-of_bits}
use lib.Ieee.Scale.{finite}
use lib.Ieee.Positive.{positive, between}
use Rattle.fields.specs.Bytes.{Bytes, AllBytes, part, num}
use Rattle.fields.proofs.ByteLaws.{num-part-lt}
use Rattle.scaling.specs.declared.Scaling.{Scaling}
use Rattle.scaling.proofs.ScalingLaws.{double_in}
use Rattle.scaling.specs.Scaling.{coordinate_of, double_at, scaling_in, scaling_of, within, good_scale, good_offset, good_scaling}
use Rattle.theorems.specs.Coordinates.{Axis, axis_x, axis_y, axis_z, axis_scale, axis_offset, scale_place, offset_place, signed, Times, Fits32, FiniteInOrder, ExactCase, Exact, CarriedBits, Coordinates}
use Rattle.theorems.proofs.scaling.SignedLaws.{Le-mul, negative, int_order, int_sum_size, size_times}
use Rattle.theorems.proofs.scaling.RoundLaws.{SizeUpTo, bounded_finite, le-fin, product_is, round_bounded, round_order, add-finite, add_order}
use Rattle.theorems.proofs.scaling.ExactLaws.{times_int, times_product, times_add, times_finer}

-- ---- a scale and an offset that pass

ends : (lo hi x : Float) → T (within lo hi x) → T (le lo x) × T (le x hi)
unfolding within
ends lo hi x h = (and_l (le lo x) (le x hi) h, and_r (le lo x) (le x hi) h)

-- above 0 and at most 2 ^ 20
abbrev Scale : Float → Type 0
Scale x = T (positive x) × SizeUpTo (2 ^ 20) x

good_scale_lem : (x : Float) → T (good_scale x) → Scale x
unfolding good_scale
good_scale_lem x h =
    let e = ends (fin false 1 (negsuc 39)) (fin false 1 (pos 20)) x h in
    let p = between (fin false 1 (negsuc 39)) x (fin false 1 (pos 20)) tt tt e.0 e.1 in
    (p, size x p e.1)
  where
    size : (x : Float) → T (positive x) → T (le x (fin false 1 (pos 20))) → SizeUpTo (2 ^ 20) x
    size nan p k = elim p [ ]
    size (inf _) p k = elim p [ ]
    size (fin true n d) p k = elim p [ ]
    size (fin false n d) p k = omega (arith, le-fin false false n 1 d (pos 20) k)

good_offset_lem : (x : Float) → T (good_offset x) → SizeUpTo (2 ^ 40) x
unfolding good_offset
good_offset_lem x h = let e = ends (fin true 1 (pos 40)) (fin false 1 (pos 40)) x h in size x e.0 e.1
  where
    size : (x : Float) → T (le (fin true 1 (pos 40)) x) → T (le x (fin false 1 (pos 40))) → SizeUpTo (2 ^ 40) x
    size nan p q = unfold le in p
    size (inf true) p q = unfold le in p
    size (inf false) p q = unfold le in q
    size (fin true m e) p q = omega (arith, le-fin true true 1 m (pos 40) e p)
    size (fin false m e) p q = omega (arith, le-fin false false m 1 e (pos 40) q)

-- ---- finite coordinates, in order

product_size : (z n d : ℕ) → z ≤ 2 ^ 31 → n ≤ 2 ^ 20 * d → z * n ≤ 2 ^ 51 * d
product_size z n d h k = omega (arith, mul-le-mul h k)

few_digits : (n : ℕ) → n ≤ 2 ^ 31 → n ≤ 2 ^ 53
few_digits n h = omega arith

product_bounded : (z : ℤ) (x : Float) → nat_abs z ≤ 2 ^ 31 → Scale x
    → SizeUpTo (2 ^ 51) (mul binary64 (of_int binary64 z) x)
product_bounded z nan h both = elim both.0 [ ]
product_bounded z (inf _) h both = elim both.0 [ ]
product_bounded z (fin true n d) h both = elim both.0 [ ]
product_bounded z (fin false n d) h (p, k) =
    rw (product_is binary64 z n d (few_digits (nat_abs z) h))
    (round_bounded binary64 (2 ^ 51) (negative z) (nat_abs z * (n * up d)) (down d) (lit≤ tt) (down_pos d)
    (product_size (nat_abs z) (n * up d) (down d) h k))

product_order : (a b : ℤ) (x : Float) → nat_abs a ≤ 2 ^ 31 → nat_abs b ≤ 2 ^ 31 → Scale x → a ≤ℤ b
    → T (le (mul binary64 (of_int binary64 a) x) (mul binary64 (of_int binary64 b) x))
product_order a b nan ha hb both h = elim both.0 [ ]
product_order a b (inf _) ha hb both h = elim both.0 [ ]
product_order a b (fin true n d) ha hb both h = elim both.0 [ ]
product_order a b (fin false n d) ha hb (p, k) h =
    let N = n * up d in
    rw (product_is binary64 a n d (few_digits (nat_abs a) ha), product_is binary64 b n d (few_digits (nat_abs b) hb))
    (round_order binary64 (2 ^ 51) (lit≤ tt) (nat_abs a * N) (down d) (nat_abs b * N) (down d) (down_pos d) (down_pos d)
    (product_size (nat_abs a) N (down d) ha k) (product_size (nat_abs b) N (down d) hb k) (negative a) (negative b)
    (Le-mul (negative a) (negative b) (nat_abs a * N) (nat_abs b * N) (down d)
    (Le-mul (negative a) (negative b) (nat_abs a) (nat_abs b) N (int_order a b h))))

pub finite_in_order : (scale offset : Float) → T (good_scale scale) → T (good_offset offset) → FiniteInOrder scale offset
unfolding Fits32 coordinate_of
finite_in_order scale offset p q =
    let s = good_scale_lem scale p in
    let o = good_offset_lem offset q in
    record {
      is_finite =
          λ z h. add-finite binary64 (2 ^ 51) (2 ^ 40) (lit≤ tt) (mul binary64 (of_int binary64 z) scale) offset (product_bounded z scale h s) o;
      in_order =
          λ a b ha hb h.
          add_order binary64 (2 ^ 51) (2 ^ 40) (lit≤ tt) (mul binary64 (of_int binary64 a) scale) (mul binary64 (of_int binary64 b) scale) offset
          (product_bounded a scale ha s) (product_bounded b scale hb s) o (product_order a b scale ha hb s h);
    }

-- ---- a file that passes number 10

six : (a b c d e f : Bool) → T (a && b && c && d && e && f) → T a × T b × T c × T d × T e × T f
six false b c d e f t = elim t [ ]
six true false c d e f t = elim t [ ]
six true true false d e f t = elim t [ ]
six true true true false e f t = elim t [ ]
six true true true true false f t = elim t [ ]
six true true true true true false t = elim t [ ]
six true true true true true true t = (tt, tt, tt, tt, tt, tt)

all_good : (c : Scaling) → T (good_scaling c)
    → T (good_scale c.x_scale) × T (good_scale c.y_scale) × T (good_scale c.z_scale)
    × T (good_offset c.x_offset) × T (good_offset c.y_offset) × T (good_offset c.z_offset)
unfolding good_scaling
all_good c h =
    six (good_scale c.x_scale) (good_scale c.y_scale) (good_scale c.z_scale)
    (good_offset c.x_offset) (good_offset c.y_offset) (good_offset c.z_offset) h

good_axis : (c : Scaling) → T (good_scaling c) → (axis : Axis)
    → T (good_scale (axis_scale axis c)) × T (good_offset (axis_offset axis c))
unfolding axis_scale axis_offset
good_axis c h axis_x = let g = all_good c h in (g.0, g.3)
good_axis c h axis_y = let g = all_good c h in (g.1, g.4)
good_axis c h axis_z = let g = all_good c h in (g.2, g.5)

-- with c the record of a file, `scaling_of s`
pub passing : (c : Scaling) → T (good_scaling c) → (axis : Axis) → FiniteInOrder (axis_scale axis c) (axis_offset axis c)
passing c h axis = let g = good_axis c h axis in finite_in_order (axis_scale axis c) (axis_offset axis c) g.0 g.1

-- ---- carried by their bits

not_nan : (x : Float) → T (finite x) → T (not (is_nan x))
unfolding is_nan
not_nan nan p = elim p [ ]
not_nan (inf _) p = elim p [ ]
not_nan (fin s m e) p = tt

pub carried_at : (s : Bytes) (at : ℕ) → AllBytes s → T (finite (double_at s at))
    → to_bits binary64 (double_at s at) ≡ num (part at 8 s)
unfolding double_at
carried_at s at h p = to_bits-of_bits binary64 (num (part at 8 s)) (num-part-lt at 8 s h) (not_nan (double_at s at) p)

scale_is : (s : Bytes) (axis : Axis) → axis_scale axis (scaling_of s) ≡ double_at s (scale_place axis)
unfolding axis_scale scaling_of scaling_in scale_place
scale_is s axis_x = double_in s 131 48 0 (lit≤ tt)
scale_is s axis_y = double_in s 131 48 8 (lit≤ tt)
scale_is s axis_z = double_in s 131 48 16 (lit≤ tt)

offset_is : (s : Bytes) (axis : Axis) → axis_offset axis (scaling_of s) ≡ double_at s (offset_place axis)
unfolding axis_offset scaling_of scaling_in offset_place
offset_is s axis_x = double_in s 131 48 24 (lit≤ tt)
offset_is s axis_y = double_in s 131 48 32 (lit≤ tt)
offset_is s axis_z = double_in s 131 48 40 (lit≤ tt)

pub carried : (s : Bytes) → AllBytes s → T (good_scaling (scaling_of s)) → (axis : Axis) → CarriedBits s axis
carried s h p axis =
    let g = good_axis (scaling_of s) p axis in
    let scale = bounded_finite (2 ^ 20) (axis_scale axis (scaling_of s)) (good_scale_lem (axis_scale axis (scaling_of s)) g.0).1 in
    let offset = bounded_finite (2 ^ 40) (axis_offset axis (scaling_of s)) (good_offset_lem (axis_offset axis (scaling_of s)) g.1) in
    record {
      scale_bits = rw (scale_is s axis) (carried_at s (scale_place axis) h (rw (scale_is s axis) at scale));
      offset_bits = rw (offset_is s axis) (carried_at s (offset_place axis) h (rw (offset_is s axis) at offset));
    }

-- ---- the exact case

offset_size : (whole : ℤ) (k : ℕ) → nat_abs whole ≤ 2 ^ 40 → k ≤ 10 → nat_abs (whole *ℤ pos (2 ^ k)) ≤ 2 ^ 50
offset_size whole k h l = rw (size_times whole (2 ^ k)) (mul-le-mul h (pow_mono l))

pub exact : {k : ℕ} {scale offset : Float} {whole : ℤ} → ExactCase k scale offset whole → Exact k scale offset whole
unfolding Exact Fits32 coordinate_of
exact {k} {scale} {offset} {whole} e =
    λ stored h.
    let far = whole *ℤ pos (2 ^ k) in
    let kl : k ≤ 1074 = omega (arith, e.few) in
    let small : nat_abs stored < 2 ^ 53 = omega arith in
    let total : nat_abs (stored +ℤ far) < 2 ^ 53 = omega (arith, offset_size whole k e.small e.few, int_sum_size stored far) in
    times_add binary64 k (mul binary64 (of_int binary64 stored) scale) offset stored far kl total
    (times_product binary64 k stored scale kl small e.power) (times_finer k offset whole e.is_whole)

-- the case is met by 2 ^ -k and each such offset
pub exact_case : (k : ℕ) (whole : ℤ) → k ≤ 10 → nat_abs whole ≤ 2 ^ 40
    → ExactCase k (fin false 1 (neg_ℤ (pos k))) (of_int binary64 whole) whole
exact_case k whole h l = record { few = h; power = power k; is_whole = times_int binary64 whole (omega arith); small = l }
  where
    power : (k : ℕ) → Times k (fin false 1 (neg_ℤ (pos k))) (pos 1)
    power zero = unfold Times signed in refl
    power (suc k) = unfold Times signed in refl

pub coordinates : Coordinates
coordinates =
    record {
      finite_in_order = passing;
      carried = carried;
      exact = λ k scale offset whole e. exact e;
      exact_case = λ k whole h l. exact_case k whole (omega arith) l;
    }
