-- A file that has the bins and bounds of some points in its header counts and bounds them.
-- Assumes nothing.
use mathlib.Core.Path.{◌≡◌, ◌∙◌}
use Prim.Native.Nat.{ℕ, zero, suc, ◌+◌, ◌*◌, ◌^◌, ◌≤◌, ◌<◌}
use native.Mathlib.Nat.{not-suc-le-zero}
use native.Mathlib.Omega.{arith}
use mathlib.Core.List.{List, [], ◌∷◌}
use lib.Dec.{T, eqb, lit≤}
use lib.ListN.{length, get_or}
use Rattle.fields.specs.Lists.{total}
use Rattle.fields.specs.Bytes.{Bytes, part, zeros, numbers_bytes}
use Rattle.fields.proofs.ListLaws.{length-kept}
use Rattle.fields.proofs.arrays.NumberLaws.{numbers_back}
use Rattle.scaling.specs.Scaling.{scaling_of, good_scaling}
use Rattle.points.specs.Raw.{return_of}
use Rattle.lasfile.specs.HeaderFields.{format}
use Rattle.publicpart.specs.Bounds.{bins, bounds}
use Rattle.publicpart.proofs.BoundLaws.{length-bins, bounds_none}
use Rattle.publicpart.proofs.BinLaws.{with_return, bin_at, five_bins}
use Rattle.theorems.specs.Coordinates.{Axis}
use Rattle.theorems.specs.BoundsOfKept.{Bounded, bin_of, Binned}
use Rattle.theorems.proofs.BoundsBack.{bounded_by}

-- ---- bounds, by the scales and offsets of f

module _ (f out : Bytes) where
  abbrev HasBounds : List Bytes → Type 0
  HasBounds ps = part 179 48 out ≡ numbers_bytes 8 (bounds (scaling_of f) ps)

  pub bounded_in : (ps : List Bytes) → T (good_scaling (scaling_of f)) → HasBounds ps → 1 ≤ length ps → (axis : Axis) → Bounded f out ps axis
  bounded_in [] good are h axis = absurd (not-suc-le-zero h)
  bounded_in (q ∷ qs) good are h axis = bounded_by f out good q qs are axis

  pub zero_in : (ps : List Bytes) → HasBounds ps → length ps ≡ 0 → part 179 48 out ≡ zeros 48
  zero_in [] are h = are ∙ bounds_none (scaling_of f)
  zero_in (q ∷ qs) are h = absurd (omega arith)

-- ---- bins

module _ (f out : Bytes) (ps : List Bytes) (are : part 111 20 out ≡ numbers_bytes 4 (bins 5 (format f) ps)) (few : length ps < 256 ^ 4) where
  bin_is : (i : ℕ) → i < 5 → bin_of out (1 + i) ≡ with_return (format f) ps (1 + i)
  unfolding bin_of
  bin_is i h =
      let counts : List ℕ = bins 5 (format f) ps in
      let five : length counts ≡ 5 = length-bins 5 (format f) ps in
      let bin : get_or counts i 0 ≡ with_return (format f) ps (1 + i) = bin_at 5 (format f) ps i h in
      let small : get_or counts i 0 < 256 ^ 4 = rw bin (omega (arith, few, length-kept (λ p. eqb (return_of (format f) p) (1 + i)) ps)) in
      let e : 107 + 4 * (1 + i) ≡ 111 + i * 4 = omega arith in
      rw e (numbers_back out 111 4 i counts (rw five are) (rw five h) small ∙ bin)

  pub binned_in : Binned f out ps
  unfolding total
  binned_in =
      record {
        each = each;
        at_most =
            omega (
              arith,
              five_bins (format f) ps,
              bin_is 0 (lit≤ tt),
              bin_is 1 (lit≤ tt),
              bin_is 2 (lit≤ tt),
              bin_is 3 (lit≤ tt),
              bin_is 4 (lit≤ tt),
            );
      }
    where
      each : (r : ℕ) → 1 ≤ r → r ≤ 5 → bin_of out r ≡ with_return (format f) ps r
      each zero l h = absurd (not-suc-le-zero l)
      each (suc i) l h = let e : suc i ≡ 1 + i = omega arith in rw e (bin_is i (omega arith))
