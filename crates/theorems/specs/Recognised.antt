-- A released file is known by releasing it: what is on the shelf came out of an accepted release under a sheet exactly
-- if a release of it under that sheet, into an output of its own length, gives it back.
-- Assumes nothing.
use Rattle.std.specs.Prelude.{◌≡◌, ◌⊎◌, ◌↔◌, ℕ, length, take}
use Rattle.fields.specs.Bytes.{Bytes, AllBytes}
use Rattle.fields.specs.Checks.{Passes}
use Rattle.lasfile.specs.FileChecks.{file_verdict}
use Rattle.sheet.specs.Sheet.{sheet_verdict}
use Rattle.publicpart.specs.Release.{release}
use Rattle.theorems.specs.Terms.{Accepted}

-- g came out of a release under the sheet
pub record OutputUnder (sheet g : Bytes) : Type 0 where
  pub source : Bytes
  pub room : Bytes
  pub n : ℕ
  pub points : ℕ
  pub records : ℕ
  -- an accepted release
  pub accepted : Accepted sheet source room n points records
  -- and its output, whole or cut at the returned length
  pub is : (g ≡ (release sheet source room).1) ⊎ (g ≡ take n (release sheet source room).1)

pub record GivesItself (sheet g b : Bytes) : Type 0 where
  -- g passes
  pub file_passes : file_verdict g ≡ Passes
  -- the sheet passes
  pub sheet_passes : sheet_verdict sheet ≡ Passes
  -- releasing g into the output b gives g's own bytes
  pub itself : (release sheet g b).1 ≡ g

pub record Recognised : Type 0 where
  -- g came out of a release under the sheet exactly if it gives itself in an output of its own length, whichever that
  -- is
  pub recognised : (sheet g b : Bytes) → AllBytes g → length b ≡ length g → OutputUnder sheet g ↔ GivesItself sheet g b
