-- A point as the numbers that another language is given or gives. On a refusal every field but `number` is 0.
-- Assumes nothing.
use Rattle.std.specs.Prelude.{ℕ, Bool, not, pos, eqb}
use mir.Val.{bool_byte}
use Rattle.points.specs.declared.Point.{Point}
use Rattle.points.specs.Points.{Decoded}
use Rattle.points.specs.Points as decoded
use Rattle.reader.specs.OnePoint.{PointAt, At, Refused}
use Rattle.capi.specs.declared.point.las_point.{las_point}

-- a point whose record lies at a place; its flags are 0 or 1
unfoldable pub found_point : ℕ → Point → las_point
found_point place p =
    record {
      number = 0;
      place = place;
      gps_time = p.gps_time;
      x = p.x;
      y = p.y;
      z = p.z;
      intensity = p.intensity;
      source_id = p.source_id;
      red = p.red;
      green = p.green;
      blue = p.blue;
      return_number = p.return_number;
      returns = p.returns;
      classification = p.classification;
      user_data = p.user_data;
      scan_direction = bool_byte p.scan_direction;
      edge = bool_byte p.edge;
      scan_angle = p.scan_angle;
      synthetic = bool_byte p.synthetic;
      key_point = bool_byte p.key_point;
      withheld = bool_byte p.withheld;
    }

unfoldable pub no_point : ℕ → las_point
no_point n =
    record {
      number = n;
      place = 0;
      gps_time = 0;
      x = pos 0;
      y = pos 0;
      z = pos 0;
      intensity = 0;
      source_id = 0;
      red = 0;
      green = 0;
      blue = 0;
      return_number = 0;
      returns = 0;
      classification = 0;
      user_data = 0;
      scan_direction = 0;
      edge = 0;
      scan_angle = pos 0;
      synthetic = 0;
      key_point = 0;
      withheld = 0;
    }

unfoldable pub point_numbers : PointAt → las_point
point_numbers (At place p) = found_point place p
point_numbers (Refused n) = no_point n

-- its place is 0
unfoldable pub decoded_numbers : Decoded → las_point
decoded_numbers (decoded.Fields p) = found_point 0 p
decoded_numbers (decoded.Refused n) = no_point n

-- a flag that is given: 0 is no, anything else is yes
unfoldable pub yes : ℕ → Bool
yes flag = not (eqb flag 0)

-- the point that is given: number and place are not looked at
unfoldable pub given_point : las_point → Point
given_point p =
    record {
      x = p.x;
      y = p.y;
      z = p.z;
      intensity = p.intensity;
      return_number = p.return_number;
      returns = p.returns;
      scan_direction = yes p.scan_direction;
      edge = yes p.edge;
      classification = p.classification;
      scan_angle = p.scan_angle;
      user_data = p.user_data;
      source_id = p.source_id;
      gps_time = p.gps_time;
      red = p.red;
      green = p.green;
      blue = p.blue;
      synthetic = yes p.synthetic;
      key_point = yes p.key_point;
      withheld = yes p.withheld;
    }
