-- The running tally of counts and stored extremes, updated point by point.
-- Assumes nothing.
use Rattle.std.specs.Prelude.{ℕ, ◌+◌, ◌≤◌, Bool, true, false, cond, ◌&&◌, eqb}
use mathlib.Core.List.{List, foldl}
use Rattle.fields.specs.Bytes.{Bytes}
use Rattle.points.specs.Raw.{return_of, stored_of}
use Rattle.points.specs.declared.raw.Stored.{Stored}
use Rattle.tally.specs.Extremes.{no_extremes, extremes_with}
use Rattle.tally.specs.declared.Bins.{Bins}
use Rattle.tally.specs.Bins.{one_in, bins_with, in_four, bins_fit, BinsUpTo}
use Rattle.tally.specs.declared.Tally.{Tally}
use Rattle.scaling.specs.Scaling.{bounds_of}
use Rattle.scaling.specs.declared.Scaling.{Scaling}
use Rattle.scaling.specs.declared.Bounds.{Bounds}

-- the tally before any point
unfoldable pub no_tally : Tally
no_tally =
    record {
      count = 0;
      bins = record { first = 0; second = 0; third = 0; fourth = 0; fifth = 0 };
      extremes = no_extremes;
    }

-- the tally with one point more, which adds this to the bins and has these coordinates
unfoldable pub tally_with : Tally → Bins → Stored → Tally
tally_with t one p =
    record {
      count = t.count + 1;
      bins = bins_with t.bins one;
      extremes = extremes_with t.extremes p;
    }

-- the tally with one point more, by its format and bytes
unfoldable pub tallied : ℕ → Tally → Bytes → Tally
tallied f t p = tally_with t (one_in (return_of f p)) (stored_of p)

-- the tally of points of a format
unfoldable pub tally_of : ℕ → List Bytes → Tally
tally_of f ps = foldl (tallied f) no_tally ps

-- no count is above what the 4 bytes of a LAS 1.2 header hold
unfoldable pub counts_fit : Tally → Bool
counts_fit t = in_four t.count && bins_fit t.bins

-- a tally with more points; as it is where a count is above what a header holds, which that of a file's points never is
unfoldable pub tally_more : ℕ → Tally → List Bytes → Tally
tally_more f t ps = cond (counts_fit t) (foldl (tallied f) t ps) t

-- ---- the bounds that a tally gives

-- the bits of +0.0, six times
unfoldable pub zero_bounds : Bounds
zero_bounds = record { max_x = 0; min_x = 0; max_y = 0; min_y = 0; max_z = 0; min_z = 0 }

unfoldable pub bounds_unless : Bool → Bounds → Bounds
bounds_unless true b = zero_bounds
bounds_unless false b = b

-- each bound is the coordinate of the largest or smallest stored value; with no points all six are +0.0
unfoldable pub tally_bounds : Tally → Scaling → Bounds
tally_bounds t c = bounds_unless (eqb t.count 0) (bounds_of c t.extremes)

-- ---- what the code's helpers require: no count is above n

pub record CountsUpTo (t : Tally) (n : ℕ) : Type 0 where
  pub total : t.count ≤ n
  pub each : BinsUpTo t.bins n
