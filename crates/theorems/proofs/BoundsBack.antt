-- A file that has the bounds of some points in its header bounds them, by the order of coordinates.
-- Assumes nothing.
use mathlib.Core.Path.{◌≡◌, sym, ap, ◌∙◌, subst}
use Prim.Native.Nat.{ℕ, ◌+◌, ◌*◌, ◌^◌, ◌≤◌, ◌<◌}
use native.Mathlib.Omega.{arith}
use mathlib.Core.List.Memᴰ
use mathlib.Core.List.{List, [], ◌∷◌, map, Memᴰ}
use lib.Dec.{T, lit≤}
use lib.IntN.{ℤ, nat_abs}
use lib.Signed.{◌≤ℤ◌}
use lib.ListN.{length, get_or}
use lib.Ieee.{Float, binary64, mul, of_int, of_bits}
use lib.Ieee.Fits.{add-fits}
use lib.Ieee.Bits.{of_bits-to_bits, to_bits-lt}
use Rattle.fields.specs.Lists.{All}
use Rattle.fields.specs.Bytes.{Bytes, part, numbers_bytes}
use Rattle.scaling.specs.declared.Scaling.{Scaling}
use Rattle.scaling.specs.Scaling.{coordinate_of, coordinate_bits, double_at, scaling_of, good_scaling}
use Rattle.theorems.specs.Coordinates.{Axis, axis_x, axis_y, axis_z, axis_scale, axis_offset, Fits32, FiniteInOrder}
use Rattle.theorems.proofs.scaling.CoordinateTheorems.{passing}
use Rattle.fields.proofs.arrays.NumberLaws.{numbers_back}
use Rattle.publicpart.specs.Bounds.{largest, smallest, bounds}
use Rattle.points.specs.Raw.{stored}
use Rattle.publicpart.proofs.BoundLaws.{length-bounds, bounds_some}
use Rattle.publicpart.proofs.ExtremeLaws.{Extreme, AtMost, AtLeast, largest_is, smallest_is}
use Rattle.points.proofs.raw.RawLaws.{stored_small}
use Rattle.theorems.specs.BoundsOfKept.{axis_number, max_of, min_of, coordinate_at, Between, OfPoint, Bounded}

-- a coordinate's bits have 64 places, and are the coordinate again
module _ (z : ℤ) (scale offset : Float) where
  bits_small : coordinate_bits z scale offset < 256 ^ 8
  unfolding coordinate_bits coordinate_of
  bits_small = to_bits-lt binary64 (coordinate_of z scale offset) (add-fits binary64 (mul binary64 (of_int binary64 z) scale) offset)

  bits_back : of_bits binary64 (coordinate_bits z scale offset) ≡ coordinate_of z scale offset
  unfolding coordinate_bits coordinate_of
  bits_back = of_bits-to_bits binary64 (coordinate_of z scale offset) (add-fits binary64 (mul binary64 (of_int binary64 z) scale) offset)

-- ---- bounds of points

axis_small : (axis : Axis) → axis_number axis ≤ 2
unfolding axis_number
axis_small axis_x = lit≤ tt
axis_small axis_y = lit≤ tt
axis_small axis_z = lit≤ tt

module _ (c : Scaling) (q : Bytes) (qs : List Bytes) where
  max_bits : (axis : Axis) → get_or (bounds c (q ∷ qs)) (2 * axis_number axis) 0
      ≡ coordinate_bits (largest (stored (axis_number axis) q) (map (stored (axis_number axis)) qs)) (axis_scale axis c) (axis_offset axis c)
  unfolding axis_number axis_scale axis_offset
  max_bits axis_x = ap (λ (l : List ℕ). get_or l 0 0) (bounds_some c q qs)
  max_bits axis_y = ap (λ (l : List ℕ). get_or l 2 0) (bounds_some c q qs)
  max_bits axis_z = ap (λ (l : List ℕ). get_or l 4 0) (bounds_some c q qs)

  min_bits : (axis : Axis) → get_or (bounds c (q ∷ qs)) (1 + 2 * axis_number axis) 0
      ≡ coordinate_bits (smallest (stored (axis_number axis) q) (map (stored (axis_number axis)) qs)) (axis_scale axis c) (axis_offset axis c)
  unfolding axis_number axis_scale axis_offset
  min_bits axis_x = ap (λ (l : List ℕ). get_or l 1 0) (bounds_some c q qs)
  min_bits axis_y = ap (λ (l : List ℕ). get_or l 3 0) (bounds_some c q qs)
  min_bits axis_z = ap (λ (l : List ℕ). get_or l 5 0) (bounds_some c q qs)

-- what holds of each point between the smallest and the largest value
between : (v : Bytes → ℤ) (lo hi : ℤ) (Q : Bytes → Type 0) → ((p : Bytes) → lo ≤ℤ v p → v p ≤ℤ hi → Q p)
    → (ps : List Bytes) → All (λ z. AtLeast z lo) (map v ps) → All (λ z. AtMost z hi) (map v ps) → All Q ps
between v lo hi Q so [] h k = tt
between v lo hi Q so (p ∷ ps) h k = (so p h.0 k.0, between v lo hi Q so ps h.1 k.1)

-- a file `out` that has the bounds of a first point and more, by the scales and offsets of f
module _ (f out : Bytes) (good : T (good_scaling (scaling_of f))) (q : Bytes) (qs : List Bytes)
    (are : part 179 48 out ≡ numbers_bytes 8 (bounds (scaling_of f) (q ∷ qs))) (axis : Axis) where
  abbrev c : Scaling
  c = scaling_of f

  abbrev v : Bytes → ℤ
  v = stored (axis_number axis)

  abbrev hi : ℤ
  hi = largest (v q) (map v qs)

  abbrev lo : ℤ
  lo = smallest (v q) (map v qs)

  abbrev at : ℤ → Float
  at z = coordinate_of z (axis_scale axis c) (axis_offset axis c)

  double_back : (i : ℕ) (z : ℤ) → i < 6
      → get_or (bounds c (q ∷ qs)) i 0 ≡ coordinate_bits z (axis_scale axis c) (axis_offset axis c)
      → double_at out (179 + i * 8) ≡ at z
  unfolding double_at
  double_back i z h e =
      let six : length (bounds c (q ∷ qs)) ≡ 6 = length-bounds c (q ∷ qs) in
      let small : get_or (bounds c (q ∷ qs)) i 0 < 256 ^ 8 = rw e (bits_small z (axis_scale axis c) (axis_offset axis c)) in
      ap (of_bits binary64) (numbers_back out 179 8 i (bounds c (q ∷ qs)) (rw six are) (rw six h) small ∙ e)
      ∙ bits_back z (axis_scale axis c) (axis_offset axis c)

  max_is : max_of out axis ≡ at hi
  unfolding max_of
  max_is =
      let e : 179 + 16 * axis_number axis ≡ 179 + 2 * axis_number axis * 8 = omega arith in
      ap (double_at out) e ∙ double_back (2 * axis_number axis) hi (omega (arith, axis_small axis)) (max_bits c q qs axis)

  min_is : min_of out axis ≡ at lo
  unfolding min_of
  min_is =
      let e : 187 + 16 * axis_number axis ≡ 179 + (1 + 2 * axis_number axis) * 8 = omega arith in
      ap (double_at out) e ∙ double_back (1 + 2 * axis_number axis) lo (omega (arith, axis_small axis)) (min_bits c q qs axis)

  -- a value that is among those stored
  of_point : (z : ℤ) (bound : Float) → bound ≡ at z → Memᴰ z (map v (q ∷ qs)) → OfPoint f axis (q ∷ qs) bound
  unfolding coordinate_at
  of_point z bound e m =
      let w = Memᴰ.of_map v (q ∷ qs) m in
      record { point = w.0; among = w.1; is = e ∙ ap at (sym w.2) }

  small : (z : ℤ) → Memᴰ z (map v (q ∷ qs)) → Fits32 z
  unfolding Fits32
  small z m =
      let w = Memᴰ.of_map v (q ∷ qs) m in
      subst (λ (y : ℤ). nat_abs y ≤ 2 ^ 31) w.2 (stored_small (axis_number axis) w.0)

  top : Extreme AtMost (map v (q ∷ qs)) hi
  top = largest_is (v q) (map v qs)

  bottom : Extreme AtLeast (map v (q ∷ qs)) lo
  bottom = smallest_is (v q) (map v qs)

  within : (p : Bytes) → lo ≤ℤ v p → v p ≤ℤ hi
      → Between (min_of out axis) (coordinate_at f axis p) (max_of out axis)
  unfolding coordinate_at
  within p l h =
      let o : FiniteInOrder (axis_scale axis c) (axis_offset axis c) = passing c good axis in
      let s : Fits32 (v p) = unfold Fits32 in stored_small (axis_number axis) p in (
        rw min_is (o.in_order lo (v p) (small lo bottom.among) s l),
        rw max_is (o.in_order (v p) hi s (small hi top.among) h),
      )

  pub bounded_by : Bounded f out (q ∷ qs) axis
  bounded_by =
      record {
        max = of_point hi (max_of out axis) max_is top.among;
        min = of_point lo (min_of out axis) min_is bottom.among;
        between =
            between v lo hi (λ p. Between (min_of out axis) (coordinate_at f axis p) (max_of out axis)) within (q ∷ qs)
            bottom.of_all top.of_all;
      }
