-- The bounds of a tally of points are those that the released header has of them. Assumes nothing.
use mathlib.Core.Path.{◌≡◌, refl, ap, ◌∙◌}
use Prim.Native.Nat.{ℕ}
use native.Mathlib.Omega.{arith}
use mathlib.Core.Bool.{false}
use mathlib.Core.List.{List, [], ◌∷◌, foldl, map}
use lib.Dec.{eqb}
use lib.IntN.{ℤ, pos, negsuc}
use borrow.Author.Tests.{ne_eqb}
use Rattle.fields.specs.Bytes.{Bytes}
use Rattle.scaling.specs.declared.Scaling.{Scaling}
use Rattle.publicpart.specs.Bounds.{larger_of, smaller_of, largest, smallest, extremes_of, bound_numbers, bounds}
use Rattle.points.specs.Raw.{stored, stored_of}
use Rattle.points.proofs.raw.RawLaws.{stored_fits}
use Rattle.tally.specs.Extremes.{no_extremes, extremes_with}
use Rattle.tally.proofs.extremes.ExtremeLaws.{max_first, min_first}
use Rattle.tally.specs.declared.Tally.{Tally}
use Rattle.tally.specs.Tally.{no_tally, tally_with, tallied, tally_of, zero_bounds, bounds_unless, tally_bounds}
use Rattle.tally.proofs.TallyLaws.{tally_count}

-- the largest value of one axis
module _ (f axis : ℕ) (max : Tally → ℤ) (step : (t : Tally) (p : Bytes) → max (tallied f t p) ≡ larger_of (max t) (stored axis p)) where
  max_from : (t : Tally) (ps : List Bytes) → max (foldl (tallied f) t ps) ≡ largest (max t) (map (stored axis) ps)
  unfolding largest
  max_from t [] = refl
  max_from t (p ∷ ps) = max_from (tallied f t p) ps ∙ ap (λ (z : ℤ). largest z (map (stored axis) ps)) (step t p)

  max_of : max no_tally ≡ negsuc 2147483647 → (p : Bytes) (ps : List Bytes) → max (tally_of f (p ∷ ps)) ≡ largest (stored axis p) (map (stored axis) ps)
  unfolding tally_of
  max_of none p ps =
      max_from (tallied f no_tally p) ps
      ∙ ap (λ (z : ℤ). largest z (map (stored axis) ps)) (step no_tally p ∙ ap (λ (z : ℤ). larger_of z (stored axis p)) none ∙ max_first (stored axis p) (stored_fits axis p))

-- the smallest
module _ (f axis : ℕ) (min : Tally → ℤ) (step : (t : Tally) (p : Bytes) → min (tallied f t p) ≡ smaller_of (min t) (stored axis p)) where
  min_from : (t : Tally) (ps : List Bytes) → min (foldl (tallied f) t ps) ≡ smallest (min t) (map (stored axis) ps)
  unfolding smallest
  min_from t [] = refl
  min_from t (p ∷ ps) = min_from (tallied f t p) ps ∙ ap (λ (z : ℤ). smallest z (map (stored axis) ps)) (step t p)

  min_of : min no_tally ≡ pos 2147483647 → (p : Bytes) (ps : List Bytes) → min (tally_of f (p ∷ ps)) ≡ smallest (stored axis p) (map (stored axis) ps)
  unfolding tally_of
  min_of none p ps =
      min_from (tallied f no_tally p) ps
      ∙ ap (λ (z : ℤ). smallest z (map (stored axis) ps)) (step no_tally p ∙ ap (λ (z : ℤ). smaller_of z (stored axis p)) none ∙ min_first (stored axis p) (stored_fits axis p))

-- the extremes of a first point and more
tally_extremes : (f : ℕ) (p : Bytes) (ps : List Bytes) → (tally_of f (p ∷ ps)).extremes ≡ extremes_of p ps
unfolding extremes_of tallied tally_with no_tally no_extremes extremes_with stored_of
tally_extremes f p ps =
    let x_max = max_of f 0 (λ t. t.extremes.max_x) (λ t q. refl) refl p ps in
    let x_min = min_of f 0 (λ t. t.extremes.min_x) (λ t q. refl) refl p ps in
    let y_max = max_of f 1 (λ t. t.extremes.max_y) (λ t q. refl) refl p ps in
    let y_min = min_of f 1 (λ t. t.extremes.min_y) (λ t q. refl) refl p ps in
    let z_max = max_of f 2 (λ t. t.extremes.max_z) (λ t q. refl) refl p ps in
    let z_min = min_of f 2 (λ t. t.extremes.min_z) (λ t q. refl) refl p ps in
    λ i. record { max_x = x_max i; min_x = x_min i; max_y = y_max i; min_y = y_min i; max_z = z_max i; min_z = z_min i }

pub tally_bounds_lem : (f : ℕ) (c : Scaling) (ps : List Bytes) → bound_numbers (tally_bounds (tally_of f ps) c) ≡ bounds c ps
unfolding bounds tally_bounds bounds_unless
tally_bounds_lem f c [] = unfold tally_of no_tally bound_numbers zero_bounds in refl
tally_bounds_lem f c (p ∷ ps) =
    let some : eqb (tally_of f (p ∷ ps)).count 0 ≡ false = ne_eqb (tally_of f (p ∷ ps)).count 0 (λ e. omega (arith, e, tally_count f (p ∷ ps))) in
    rw (some, tally_extremes f p ps)
