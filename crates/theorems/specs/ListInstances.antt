-- Instances of the theorems on the cutting list and on the release that is written from it: sample P9's file, whose
-- record ends at its point offset.
-- Assumes nothing.
use Rattle.std.specs.Prelude.{◌≡◌, ◌≤◌, [], ◌∷◌, length}
use Rattle.fields.specs.Bytes.{zeros}
use Rattle.publicpart.specs.Public.{public_of}
use Rattle.publicpart.specs.Release.{release}
use Rattle.publicpart.specs.Cutting.{span, cutting_lines, release_by_list}
use Rattle.capi.specs.Answers.{released_numbers}
use Rattle.theorems.specs.Terms.{refusal}
use Rattle.theorems.specs.Demand3.{Same, in_length}
use Rattle.theorems.specs.CuttingList.{line_at, end_of}
use Rattle.theorems.specs.ByList.{by_list, OfOutputByList}
use Rattle.theorems.specs.Samples.{sheet3, used, file9}
use Rattle.theorems.specs.Instances.{other9, filled, sheet_both, unfilled}

pub record CuttingListMet : Type 0 where
  -- the payload of its record, and its point of class 2
  pub lines : cutting_lines sheet_both file9 ≡ span 281 10 ∷ span 291 28 ∷ []
  -- the second line lies in the file
  pub inside : end_of (line_at (cutting_lines sheet_both file9) 1) ≤ length file9
  -- behind the first
  pub rising : (line_at (cutting_lines sheet_both file9) 0).place ≤ (line_at (cutting_lines sheet_both file9) 1).place
  pub apart : end_of (line_at (cutting_lines sheet_both file9) 0) ≤ (line_at (cutting_lines sheet_both file9) 1).place

pub record ByListMet : Type 0 where
  -- a list of exactly two lines
  pub same : by_list sheet_both file9 (used 400) (unfilled 2) ≡ release sheet_both file9 (used 400)
  -- a longer one is filled at its front
  pub listed : (release_by_list sheet_both file9 (used 400) (unfilled 3)).1 ≡ span 281 10 ∷ span 291 28 ∷ unfilled 1
  -- two files with one public part, and two lists
  pub exactly : Same (by_list sheet3 file9 (filled 7) (unfilled 1)) (by_list sheet3 other9 (filled 9) (unfilled 2))
  pub one_public_part : public_of sheet3 file9 ≡ public_of sheet3 other9
  -- into 254 bytes
  pub short : (released_numbers (by_list sheet3 file9 (used 254) (unfilled 1)).0 ≡ refusal 30 255)
      × ((by_list sheet3 file9 (used 254) (unfilled 1)).1 ≡ used 254)
      × (released_numbers (by_list sheet3 other9 (zeros 254) (unfilled 2)).0 ≡ refusal 30 255)
      × ((by_list sheet3 other9 (zeros 254) (unfilled 2)).1 ≡ zeros 254)
  -- again, into a longer output
  pub again : OfOutputByList sheet3 file9 (filled 7) (unfilled 1) 255 (λ file.
      by_list sheet3 file (used 400) (unfilled 2) ≡ in_length 255 400 (by_list sheet3 file9 (filled 7) (unfilled 1)))
  -- into one of the same length
  pub again_same : OfOutputByList sheet3 file9 (filled 7) (unfilled 1) 255 (λ file.
      by_list sheet3 file (filled 9) (unfilled 1) ≡ by_list sheet3 file9 (filled 7) (unfilled 1))
