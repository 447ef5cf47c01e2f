-- What is proved of a file and its records: it passes exactly if all that the checks look at is as it should be, and
-- records that are written are read back.
-- Assumes nothing.
use Rattle.std.specs.Prelude.{◌≡◌, ◌↔◌, ℕ, ◌+◌, List, ◌++◌, length}
use Rattle.fields.specs.Lists.{All, total}
use Rattle.fields.specs.Bytes.{Bytes}
use Rattle.fields.specs.Checks.{Passes}
use Rattle.lasfile.specs.FileChecks.{file_verdict}
use Rattle.lasfile.specs.Passed.{Passed}
use Rattle.lasfile.specs.Records.{SoundRecord, Record, walk, walk_end, records_bytes, written_length}

pub record Files : Type 0 where
  -- a file passes the file checks exactly if it is as `Passed` says, fact by fact
  pub passes : (s : Bytes) → (file_verdict s ≡ Passes) ↔ Passed s
  -- a walk over records that were written at a place finds them, whatever stands before and behind them
  pub walk_back : (lw : ℕ) (rs : List Record) → All (SoundRecord lw) rs → (at : ℕ) (pre rest : Bytes) → length pre ≡ at
      → walk lw (length rs) at (pre ++ (records_bytes lw rs ++ rest)) ≡ rs
  -- and it ends where they do
  pub walk_end_back : (lw : ℕ) (rs : List Record) → All (SoundRecord lw) rs → (at : ℕ) (pre rest : Bytes)
      → length pre ≡ at
      → walk_end lw (length rs) at (pre ++ (records_bytes lw rs ++ rest)) ≡ at + total (written_length lw) rs
