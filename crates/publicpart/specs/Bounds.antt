-- Counts by return number, and bounds, over points.
-- Assumes nothing.
use Rattle.std.specs.Prelude.{ℕ, zero, suc, cond, List, [], ◌∷◌, map, length, eqb, ℤ}
use Rattle.std.specs.Int.Signed.{lt_z}
use Rattle.fields.specs.Lists.{kept}
use Rattle.fields.specs.Bytes.{Bytes}
use Rattle.points.specs.Raw.{return_of, stored}
use Rattle.scaling.specs.Scaling.{bounds_of}
use Rattle.scaling.specs.declared.Scaling.{Scaling}
use Rattle.scaling.specs.declared.Extremes.{Extremes}
use Rattle.scaling.specs.declared.Bounds.{Bounds}

-- ---- counts

-- from, from + 1, .. n of them
unfoldable pub up_from : ℕ → ℕ → List ℕ
up_from from zero = []
up_from from (suc n) = from ∷ up_from (suc from) n

-- bin r of the n bins counts return number r among points of a format; other numbers are in no bin
unfoldable pub bins : ℕ → ℕ → List Bytes → List ℕ
bins n f ps = map (λ r. length (kept (λ p. eqb (return_of f p) r) ps)) (up_from 1 n)

-- ---- bounds

abbrev pub larger_of : ℤ → ℤ → ℤ
larger_of a b = cond (lt_z a b) b a

abbrev pub smaller_of : ℤ → ℤ → ℤ
smaller_of a b = cond (lt_z b a) b a

unfoldable pub largest : ℤ → List ℤ → ℤ
largest z [] = z
largest z (y ∷ ys) = largest (larger_of z y) ys

unfoldable pub smallest : ℤ → List ℤ → ℤ
smallest z [] = z
smallest z (y ∷ ys) = smallest (smaller_of z y) ys

-- the largest and smallest stored values of a first point and more
unfoldable pub extremes_of : Bytes → List Bytes → Extremes
extremes_of p ps =
    record {
      max_x = largest (stored 0 p) (map (stored 0) ps);
      min_x = smallest (stored 0 p) (map (stored 0) ps);
      max_y = largest (stored 1 p) (map (stored 1) ps);
      min_y = smallest (stored 1 p) (map (stored 1) ps);
      max_z = largest (stored 2 p) (map (stored 2) ps);
      min_z = smallest (stored 2 p) (map (stored 2) ps);
    }

-- max X, min X, max Y, min Y, max Z, min Z
unfoldable pub bound_numbers : Bounds → List ℕ
bound_numbers b = b.max_x ∷ b.min_x ∷ b.max_y ∷ b.min_y ∷ b.max_z ∷ b.min_z ∷ []

-- each bound is the coordinate of the largest or smallest stored value; with no points all six are +0.0
unfoldable pub bounds : Scaling → List Bytes → List ℕ
bounds c [] = 0 ∷ 0 ∷ 0 ∷ 0 ∷ 0 ∷ 0 ∷ []
bounds c (p ∷ ps) = bound_numbers (bounds_of c (extremes_of p ps))
