-- What is proved of a point record's first 20 bytes: they decide whether it is kept, and what it adds to the tally. So
-- a record can be judged before the whole of it is there.
-- Assumes nothing.
use Rattle.std.specs.Prelude.{◌≡◌, ℕ, ◌≤◌, take}
use Rattle.fields.specs.Bytes.{Bytes}
use Rattle.sheet.specs.Keeping.{keeps_point}
use Rattle.tally.specs.declared.Tally.{Tally}
use Rattle.tally.specs.Tally.{tallied}

pub record FirstBytes : Type 0 where
  -- a front of 20 bytes or more is kept exactly if the record is
  pub kept : (sheet : Bytes) (f n : ℕ) (p : Bytes) → 20 ≤ n → keeps_point sheet f (take n p) ≡ keeps_point sheet f p
  -- and adds to a tally what the record adds
  pub counted : (f n : ℕ) (t : Tally) (p : Bytes) → 20 ≤ n → tallied f t (take n p) ≡ tallied f t p
