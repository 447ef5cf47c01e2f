-- Scales, offsets, coordinates and bounds, over the library's account of IEEE 754's binary64.
-- Assumes nothing.
use Rattle.std.specs.Prelude.{ℕ, Bool, true, false, ◌&&◌, ℤ, pos, negsuc, Float}
use Rattle.std.specs.Float.{fin, binary64}
use Rattle.std.specs.Float.Ieee.{le, of_bits, add, mul, of_int, to_bits}
use Rattle.fields.specs.Bytes.{Bytes, part, num}
use Rattle.scaling.specs.declared.Scaling.{Scaling}
use Rattle.scaling.specs.declared.Coordinates.{Coordinates}
use Rattle.scaling.specs.declared.Extremes.{Extremes}
use Rattle.scaling.specs.declared.Bounds.{Bounds}

-- stored value times scale, rounded once, plus offset, rounded once, both to nearest with ties to even
unfoldable pub coordinate_of : ℤ → Float → Float → Float
coordinate_of stored scale offset = add binary64 (mul binary64 (of_int binary64 stored) scale) offset

-- the bits of a coordinate
unfoldable pub coordinate_bits : ℤ → Float → Float → ℕ
coordinate_bits stored scale offset = to_bits binary64 (coordinate_of stored scale offset)

-- the double at a place of a file
unfoldable pub double_at : Bytes → ℕ → Float
double_at s at = of_bits binary64 (num (part at 8 s))

-- the three scales and three offsets in 48 bytes
unfoldable pub scaling_in : Bytes → Scaling
scaling_in b =
    record {
      x_scale = double_at b 0;
      y_scale = double_at b 8;
      z_scale = double_at b 16;
      x_offset = double_at b 24;
      y_offset = double_at b 32;
      z_offset = double_at b 40;
    }

-- those of a header, which starts the file
unfoldable pub scaling_of : Bytes → Scaling
scaling_of s = scaling_in (part 131 48 s)

-- lo ≤ x ≤ hi, which fails for a NaN
unfoldable pub within : Float → Float → Float → Bool
within lo hi x = le lo x && le x hi

-- a scale is from 2 ^ -40 to 2 ^ 20 (`negsuc 39` is -40)
unfoldable pub good_scale : Float → Bool
good_scale x = within (fin false 1 (negsuc 39)) (fin false 1 (pos 20)) x

-- an offset is from -2 ^ 40 to 2 ^ 40
unfoldable pub good_offset : Float → Bool
good_offset x = within (fin true 1 (pos 40)) (fin false 1 (pos 40)) x

-- number 10 is given where this is false
unfoldable pub good_scaling : Scaling → Bool
good_scaling c =
    good_scale c.x_scale && good_scale c.y_scale && good_scale c.z_scale
    && good_offset c.x_offset && good_offset c.y_offset && good_offset c.z_offset

-- the coordinates of a point's stored values
unfoldable pub coordinates_of : Scaling → ℤ → ℤ → ℤ → Coordinates
coordinates_of c x y z =
    record {
      x = coordinate_of x c.x_scale c.x_offset;
      y = coordinate_of y c.y_scale c.y_offset;
      z = coordinate_of z c.z_scale c.z_offset;
    }

-- the six bounds by their bits, in the header's order: each is the coordinate of the largest or smallest stored value
unfoldable pub bounds_of : Scaling → Extremes → Bounds
bounds_of c e =
    record {
      max_x = coordinate_bits e.max_x c.x_scale c.x_offset;
      min_x = coordinate_bits e.min_x c.x_scale c.x_offset;
      max_y = coordinate_bits e.max_y c.y_scale c.y_offset;
      min_y = coordinate_bits e.min_y c.y_scale c.y_offset;
      max_z = coordinate_bits e.max_z c.z_scale c.z_offset;
      min_z = coordinate_bits e.min_z c.z_scale c.z_offset;
    }
