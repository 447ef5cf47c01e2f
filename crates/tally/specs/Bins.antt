-- The five bins of points by return number.
-- Assumes nothing.
use Rattle.std.specs.Prelude.{ℕ, ◌+◌, ◌≤◌, Bool, ◌&&◌, List, [], ◌∷◌, eqb, leb}
use mir.Val.{bool_byte}
use Rattle.tally.specs.declared.Bins.{Bins}

-- what a point of return number n adds: bin r counts return number r, and 0, 6 and 7 are in no bin
unfoldable pub one_in : ℕ → Bins
one_in n =
    record {
      first = bool_byte (eqb n 1);
      second = bool_byte (eqb n 2);
      third = bool_byte (eqb n 3);
      fourth = bool_byte (eqb n 4);
      fifth = bool_byte (eqb n 5);
    }

-- the bins with what one point adds
unfoldable pub bins_with : Bins → Bins → Bins
bins_with b one =
    record {
      first = b.first + one.first;
      second = b.second + one.second;
      third = b.third + one.third;
      fourth = b.fourth + one.fourth;
      fifth = b.fifth + one.fifth;
    }

-- the five bins, from return number 1 on
unfoldable pub bin_numbers : Bins → List ℕ
bin_numbers b = b.first ∷ b.second ∷ b.third ∷ b.fourth ∷ b.fifth ∷ []

-- a number that 4 bytes hold
abbrev pub in_four : ℕ → Bool
in_four n = leb n 4294967295

-- no bin is above what 4 bytes hold
unfoldable pub bins_fit : Bins → Bool
bins_fit b =
    (((in_four b.first && in_four b.second) && in_four b.third) && in_four b.fourth)
    && in_four b.fifth

-- ---- what the code's helpers use; no public contract cites these

-- a 1 at place 5, among zeros
unfoldable pub one_among_zeros : List ℕ
one_among_zeros = 0 ∷ 0 ∷ 0 ∷ 0 ∷ 0 ∷ 1 ∷ 0 ∷ 0 ∷ 0 ∷ 0 ∷ 0 ∷ 0 ∷ []

-- no bin is above n
pub record BinsUpTo (b : Bins) (n : ℕ) : Type 0 where
  pub first : b.first ≤ n
  pub second : b.second ≤ n
  pub third : b.third ≤ n
  pub fourth : b.fourth ≤ n
  pub fifth : b.fifth ≤ n
