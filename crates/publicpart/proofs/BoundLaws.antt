-- Laws of counts and bounds: how many there are, and the bounds in the header's order.
-- Assumes nothing.
use mathlib.Core.Path.{◌≡◌, refl, ap}
use Prim.Native.Nat.{ℕ, zero, suc}
use mathlib.Core.List.{List, [], ◌∷◌, map}
use lib.ListN.{length, length-map}
use Rattle.fields.specs.Bytes.{Bytes, join, bytes_of, zeros, numbers_bytes}
use Rattle.scaling.specs.Scaling.{coordinate_bits, bounds_of}
use Rattle.scaling.specs.declared.Scaling.{Scaling}
use Rattle.publicpart.specs.Bounds.{up_from, bins, largest, smallest, extremes_of, bound_numbers, bounds}
use Rattle.points.specs.Raw.{stored}

length-up_from : (from n : ℕ) → length (up_from from n) ≡ n
unfolding up_from
length-up_from from zero = refl
length-up_from from (suc n) = ap suc (length-up_from (suc from) n)

pub length-bins : (n f : ℕ) (ps : List Bytes) → length (bins n f ps) ≡ n
unfolding bins
length-bins n f ps = simp (length-map, length-up_from)

pub length-bounds : (c : Scaling) (ps : List Bytes) → length (bounds c ps) ≡ 6
unfolding bounds bound_numbers
length-bounds c [] = refl
length-bounds c (p ∷ ps) = refl

-- the six bounds of a first point and more, in the header's order
pub bounds_some : (c : Scaling) (p : Bytes) (ps : List Bytes) → bounds c (p ∷ ps) ≡
    coordinate_bits (largest (stored 0 p) (map (stored 0) ps)) c.x_scale c.x_offset
    ∷ coordinate_bits (smallest (stored 0 p) (map (stored 0) ps)) c.x_scale c.x_offset
    ∷ coordinate_bits (largest (stored 1 p) (map (stored 1) ps)) c.y_scale c.y_offset
    ∷ coordinate_bits (smallest (stored 1 p) (map (stored 1) ps)) c.y_scale c.y_offset
    ∷ coordinate_bits (largest (stored 2 p) (map (stored 2) ps)) c.z_scale c.z_offset
    ∷ coordinate_bits (smallest (stored 2 p) (map (stored 2) ps)) c.z_scale c.z_offset
    ∷ []
unfolding bounds bound_numbers bounds_of extremes_of
bounds_some c p ps = refl

pub bounds_none : (c : Scaling) → numbers_bytes 8 (bounds c []) ≡ zeros 48
unfolding bounds numbers_bytes join bytes_of
bounds_none c = refl
