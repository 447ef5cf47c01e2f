-- What a step of the walk answers, case by case.
-- Assumes nothing.
use mathlib.Core.Path.{◌≡◌}
use Prim.Native.Nat.{ℕ, ◌+◌}
use lib.ListN.{drop}
use lib.Dec.{ltb}
use Rattle.fields.specs.Bytes.{Bytes}
use Rattle.fields.specs.Checks.{first_failing, Test, ◌below◌, not_so, ◌or◌, Clear, Passes, Fails}
use Rattle.fields.proofs.CheckLaws.{Broken, first_fails, all_clear, then_passes, then_fails}
use Rattle.lasfile.specs.Records.{size_of}
use Rattle.lasfile.specs.HeaderFields.{header_size, point_offset, record_count}
use Rattle.lasfile.specs.FileChecks.{file_verdict}
use Rattle.reader.specs.Steps.{step_checks, record_places, next_cursor, record_if, step_of, Record, Refused}

module _ (s : Bytes) (index position : ℕ) where
  -- the test behind number 18
  abbrev pub test : Test
  test = not_so (ltb index (record_count s)) or (position below header_size s or point_offset s below position + size_of 2 (drop position s))

  pub refused_by_file : (n : ℕ) → file_verdict s ≡ Fails n → step_of s index position ≡ Refused n
  unfolding step_of record_if
  refused_by_file n e = rw (then_fails (file_verdict s) (first_failing (step_checks s index position)) n e)

  module _ (passes : file_verdict s ≡ Passes) where
    pub refused_18 : Broken test → step_of s index position ≡ Refused 18
    unfolding step_of record_if
    refused_18 h = rw (then_passes (file_verdict s) (first_failing (step_checks s index position)) passes, first_fails 18 test _ h)

    pub answered : Clear test → step_of s index position ≡ Record (record_places s position) (next_cursor s index position)
    unfolding step_of record_if
    answered h =
        rw (then_passes (file_verdict s) (first_failing (step_checks s index position)) passes, all_clear (step_checks s index position) (h, tt))
