-- Laws of the doubles of a header.
-- Assumes nothing.
use mathlib.Core.Path.{◌≡◌, refl, ap}
use Prim.Native.Nat.{ℕ, ◌+◌, ◌≤◌}
use lib.Dec.{lit≤}
use lib.Ieee.{binary64, of_bits}
use Rattle.fields.specs.Bytes.{Bytes, part, num}
use Rattle.fields.proofs.ByteLaws.{part-part}
use Rattle.scaling.specs.Scaling.{double_at, scaling_in, scaling_of}

-- a double of a part, at its place in the whole
pub double_in : (s : Bytes) (at w i : ℕ) → i + 8 ≤ w → double_at (part at w s) i ≡ double_at s (at + i)
unfolding double_at
double_in s at w i h = ap (λ (b : Bytes). of_bits binary64 (num b)) (part-part at w i 8 s h)

-- the part of a file that holds them
pub scaling_in_lem : (s : Bytes) → scaling_of s ≡ scaling_in (part 131 48 s)
unfolding scaling_of
scaling_in_lem s = refl

-- each double of a header, at its place in the file
pub scaling_at : (s : Bytes) →
    scaling_of s
    ≡ record {
      x_scale = double_at s 131;
      y_scale = double_at s 139;
      z_scale = double_at s 147;
      x_offset = double_at s 155;
      y_offset = double_at s 163;
      z_offset = double_at s 171;
    }
unfolding scaling_of scaling_in
scaling_at s =
    λ i. record {
      x_scale = double_in s 131 48 0 (lit≤ tt) i;
      y_scale = double_in s 131 48 8 (lit≤ tt) i;
      z_scale = double_in s 131 48 16 (lit≤ tt) i;
      x_offset = double_in s 131 48 24 (lit≤ tt) i;
      y_offset = double_in s 131 48 32 (lit≤ tt) i;
      z_offset = double_in s 131 48 40 (lit≤ tt) i;
    }
