-- The stored extremes, updated point by point.
-- Assumes nothing.
use Rattle.std.specs.Prelude.{pos, negsuc}
use Rattle.scaling.specs.declared.Extremes.{Extremes}
use Rattle.points.specs.declared.raw.Stored.{Stored}
use Rattle.publicpart.specs.Bounds.{larger_of, smaller_of}

-- no point yet: the lowest number of 32 bits for a largest value, the highest for a smallest
unfoldable pub no_extremes : Extremes
no_extremes =
    record {
      max_x = negsuc 2147483647;
      min_x = pos 2147483647;
      max_y = negsuc 2147483647;
      min_y = pos 2147483647;
      max_z = negsuc 2147483647;
      min_z = pos 2147483647;
    }

-- one point more
unfoldable pub extremes_with : Extremes → Stored → Extremes
extremes_with e p =
    record {
      max_x = larger_of e.max_x p.x;
      min_x = smaller_of e.min_x p.x;
      max_y = larger_of e.max_y p.y;
      min_y = smaller_of e.min_y p.y;
      max_z = larger_of e.max_z p.z;
      min_z = smaller_of e.min_z p.z;
    }
