-- The bounds and bins of a released file are those of the kept points.
-- Assumes nothing.
use Rattle.std.specs.Prelude.{◌≡◌, ℕ, ◌+◌, ◌*◌, ◌≤◌, T, eqb, length, Float}
use mathlib.Core.List.{List, [], ◌∷◌, Memᴰ}
use Rattle.std.specs.Float.Ieee.{le}
use Rattle.fields.specs.Lists.{All, kept, total}
use Rattle.fields.specs.Bytes.{Bytes, part, num, zeros}
use Rattle.scaling.specs.Scaling.{coordinate_of, double_at, scaling_of}
use Rattle.theorems.specs.Coordinates.{Axis, axis_x, axis_y, axis_z, axis_scale, axis_offset}
use Rattle.lasfile.specs.HeaderFields.{format}
use Rattle.points.specs.Raw.{return_of, stored}
use Rattle.theorems.specs.ReleasedFile.{points_kept}
use Rattle.theorems.specs.Terms.{Accepted, OfOutput}

-- ---- bounds, over the axis

unfoldable pub axis_number : Axis → ℕ
axis_number axis_x = 0
axis_number axis_y = 1
axis_number axis_z = 2

-- a file's bounds: max X, min X, max Y, min Y, max Z, min Z from 179 on
unfoldable pub max_of : Bytes → Axis → Float
max_of s axis = double_at s (179 + 16 * axis_number axis)

unfoldable pub min_of : Bytes → Axis → Float
min_of s axis = double_at s (187 + 16 * axis_number axis)

-- the coordinate of a point of the file f
unfoldable pub coordinate_at : Bytes → Axis → Bytes → Float
coordinate_at f axis p =
    coordinate_of (stored (axis_number axis) p) (axis_scale axis (scaling_of f)) (axis_offset axis (scaling_of f))

-- a double from one to another
abbrev pub Between : Float → Float → Float → Type 0
Between low x high = T (le low x) × T (le x high)

-- a bound is the coordinate of some point
pub record OfPoint (f : Bytes) (axis : Axis) (points : List Bytes) (bound : Float) : Type 0 where
  pub point : Bytes
  -- it is one of them
  pub among : Memᴰ point points
  -- and the bound is its coordinate
  pub is : bound ≡ coordinate_at f axis point

-- a file `out` bounds points of the file f
pub record Bounded (f out : Bytes) (points : List Bytes) (axis : Axis) : Type 0 where
  -- the larger bound is the coordinate of some point
  pub max : OfPoint f axis points (max_of out axis)
  -- so is the smaller
  pub min : OfPoint f axis points (min_of out axis)
  -- and every point's coordinate is from the one bound to the other
  pub between : All (λ p. Between (min_of out axis) (coordinate_at f axis p) (max_of out axis)) points

-- ---- bins

-- a file's count of return number r, from 1 to 5
unfoldable pub bin_of : Bytes → ℕ → ℕ
bin_of s r = num (part (107 + 4 * r) 4 s)

-- a file `out` counts points of the file f's format by return number
pub record Binned (f out : Bytes) (points : List Bytes) : Type 0 where
  -- bin r counts those with return number r
  pub each : (r : ℕ) → 1 ≤ r → r ≤ 5 → bin_of out r ≡ length (kept (λ p. eqb (return_of (format f) p) r) points)
  -- and a point is in at most one bin
  pub at_most : total (bin_of out) (1 ∷ 2 ∷ 3 ∷ 4 ∷ 5 ∷ []) ≤ length points

-- ---- of the output of an accepted release

pub record BoundsOfKept : Type 0 where
  -- where some point is kept, each bound is the coordinate of a kept point, and every kept point lies between the two
  pub bounded : (sheet f a : Bytes) (n points records : ℕ) → Accepted sheet f a n points records
      → 1 ≤ points → (axis : Axis)
      → OfOutput sheet f a n (λ out. Bounded f out (points_kept sheet f) axis)
  -- with no kept points all six are +0.0
  pub no_points : (sheet f a : Bytes) (n points records : ℕ) → Accepted sheet f a n points records
      → points ≡ 0 → OfOutput sheet f a n (λ out. part 179 48 out ≡ zeros 48)
  -- bin r counts the kept points with return number r
  pub binned : (sheet f a : Bytes) (n points records : ℕ) → Accepted sheet f a n points records
      → OfOutput sheet f a n (λ out. Binned f out (points_kept sheet f))
