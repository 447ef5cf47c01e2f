-- What is proved of the released file: every kept record and every kept point of the source is in it, in order and
-- unchanged, and nothing else is; it passes the file checks, and is never longer than its source.
-- Assumes nothing.
use Rattle.std.specs.Prelude.{◌≡◌, ℕ, ◌+◌, ◌-◌, ◌*◌, ◌≤◌, List, length, drop}
use Rattle.fields.specs.Lists.{kept, total}
use Rattle.fields.specs.Bytes.{Bytes, zeros}
use Rattle.fields.specs.Checks.{Passes}
use Rattle.lasfile.specs.Records.{Record, written_length}
use Rattle.lasfile.specs.HeaderFields.{header_block, format, record_length}
use Rattle.lasfile.specs.FileChecks.{file_verdict}
use Rattle.sheet.specs.Sheet.{sheet_verdict}
use Rattle.sheet.specs.Keeping.{keeps_point}
use Rattle.publicpart.specs.Public.{carried_of, contents, sheet_keeps, public_of}
use Rattle.publicpart.specs.Release.{release}
use Rattle.capi.specs.Answers.{released_numbers}
use Rattle.theorems.specs.Terms.{Good, Accepted, OfOutput}

-- the source's kept records and kept points, in order
abbrev pub records_kept : Bytes → Bytes → List Record
records_kept sheet f = kept (sheet_keeps sheet) (contents f).records

abbrev pub points_kept : Bytes → Bytes → List Bytes
points_kept sheet f = kept (keeps_point sheet (format f)) (contents f).points

-- what is read in a file `out` is the public part of f
pub record Holds (sheet f out : Bytes) : Type 0 where
  -- as a whole
  pub whole : contents out ≡ public_of sheet f
  -- part by part: the carried fields
  pub carried : carried_of out ≡ carried_of f
  -- what the sheet keeps of f's records
  pub records : (contents out).records ≡ records_kept sheet f
  -- and of its points
  pub points : (contents out).points ≡ points_kept sheet f

-- what the returned numbers count
pub record CountsKept (sheet f : Bytes) (n points records : ℕ) : Type 0 where
  -- the kept points
  pub points_are : points ≡ length (points_kept sheet f)
  -- the kept records
  pub records_are : records ≡ length (records_kept sheet f)
  -- the length is that of a header, the records and the points: there is no room for anything else
  pub length_is : n
      ≡ header_block + total (written_length 2) (records_kept sheet f) + length (points_kept sheet f) * record_length f

pub record Complete : Type 0 where
  -- the output, read as a file, holds the public part of the source
  pub holds : (sheet f a : Bytes) (n points records : ℕ) → Accepted sheet f a n points records
      → OfOutput sheet f a n (Holds sheet f)
  -- the returned numbers count what is kept
  pub counted : (sheet f a : Bytes) (n points records : ℕ) → Accepted sheet f a n points records
      → CountsKept sheet f n points records
  -- the output keeps its length, and its rest is zero
  pub rest : (sheet f a : Bytes) (n points records : ℕ) → Accepted sheet f a n points records
      → (length (release sheet f a).1 ≡ length a) × (drop n (release sheet f a).1 ≡ zeros (length a - n))

pub record NeverLonger : Type 0 where
  -- the returned length n is at most the source's
  pub no_longer : (sheet f a : Bytes) (n points records : ℕ) → Accepted sheet f a n points records → n ≤ length f
  -- the output passes the file checks
  pub passes : (sheet f a : Bytes) (n points records : ℕ) → Accepted sheet f a n points records
      → OfOutput sheet f a n (λ file. file_verdict file ≡ Passes)
  -- an output as long as the source is never too short
  pub room : (sheet f a : Bytes) → sheet_verdict sheet ≡ Passes → Good f → length f ≤ length a
      → (released_numbers (release sheet f a).0).number ≡ 0
