-- Instances of the theorems on boxes and on the order of lines: a box of one point, a box around everything, and sample
-- P9's file with its second point moved.
-- Assumes nothing.
use Rattle.std.specs.Prelude.{◌≡◌, ℕ, true, false, [], ◌∷◌, ◌++◌, take, drop}
use Rattle.fields.specs.Lists.{All}
use Rattle.fields.specs.Bytes.{Bytes}
use Rattle.sheet.specs.Sheet.{kind, lines}
use Rattle.sheet.specs.Keeping.{contains_point, keeps_place, keeps_point}
use Rattle.publicpart.specs.Public.{contents, public_of}
use Rattle.publicpart.specs.Release.{release}
use Rattle.theorems.specs.Terms.{OfOutput}
use Rattle.theorems.specs.Demand3.{Same}
use Rattle.theorems.specs.Sheets.{SomeLine, KeepAlike}
use Rattle.theorems.specs.Boxes.{Inside}
use Rattle.theorems.specs.Samples.{sheet3, point7, file9}
use Rattle.theorems.specs.Instances.{filled, first9}

-- stored values as bytes: -1, 0 and 100, -2^31 and 2^31 - 1
abbrev minus_one : Bytes
minus_one = 0xFF ∷ 0xFF ∷ 0xFF ∷ 0xFF ∷ []

abbrev nought : Bytes
nought = 0x00 ∷ 0x00 ∷ 0x00 ∷ 0x00 ∷ []

abbrev hundred : Bytes
hundred = 0x64 ∷ 0x00 ∷ 0x00 ∷ 0x00 ∷ []

abbrev lowest32 : Bytes
lowest32 = 0x00 ∷ 0x00 ∷ 0x00 ∷ 0x80 ∷ []

abbrev highest32 : Bytes
highest32 = 0xFF ∷ 0xFF ∷ 0xFF ∷ 0x7F ∷ []

-- a box of sample P7's point alone, which lies on all its faces
abbrev pub box7 : Bytes
box7 = 0x4B ∷ 0x53 ∷ 0x03 ∷ (minus_one ++ minus_one ++ hundred ++ hundred ++ nought ++ nought)

-- one around everything
abbrev pub box_all : Bytes
box_all = 0x4B ∷ 0x53 ∷ 0x03 ∷ (lowest32 ++ highest32 ++ lowest32 ++ highest32 ++ lowest32 ++ highest32)

-- sheets for class 2 with either
abbrev pub sheet_box : Bytes
sheet_box = sheet3 ++ box7

abbrev pub sheet_all : Bytes
sheet_all = sheet3 ++ box_all

-- the same lines in another order, and one of them twice
abbrev pub sheet_turned : Bytes
sheet_turned = box7 ++ sheet3 ++ box7

-- sample P7's point with its X at 255, beside the box
abbrev pub beside7 : ℕ → Bytes
beside7 byte = 0xFF ∷ 0x00 ∷ 0x00 ∷ 0x00 ∷ drop 4 (point7 byte)

-- sample P9's file with its second point of class 2, beside the box
abbrev pub beside9 : Bytes
beside9 = take 319 file9 ++ (beside7 2 ++ drop 339 file9)

pub record BoxesMet : Type 0 where
  -- the point lies inside
  pub inside : (kind box7 ≡ 3) × Inside box7 (point7 2)
  -- and its place is kept by one of the lines
  pub place : SomeLine (lines sheet_box) (λ l. (kind l ≡ 3) × Inside l (point7 2))
  -- a box alone keeps no point
  pub no_class : keeps_point box7 0 (point7 2) ≡ false
  -- no point of a release lies beside it
  pub none_goes_out : OfOutput sheet_box beside9 (filled 7) 255 (λ out.
      All (λ p. keeps_place sheet_box p ≡ true) (contents out).points)
  -- a file with a point beside it and one without that point are two files
  pub files_differ : beside9 ≡ first9 → ⊥
  -- with one public part
  pub same_public_part : public_of sheet_box beside9 ≡ public_of sheet_box first9
  -- and so with the same release
  pub alike : Same (release sheet_box beside9 (filled 7)) (release sheet_box first9 (filled 9))
  -- without the box they have two
  pub apart : Same (release sheet3 beside9 (filled 7)) (release sheet3 first9 (filled 9)) → ⊥
  -- the box around everything contains what the small one contains
  pub contains : contains_point box_all (point7 2) ≡ true
  -- in its place, it keeps what that keeps
  pub keeps : keeps_point sheet_all 0 (point7 2) ≡ true
  -- and what no box keeps
  pub as_none : (f : ℕ) (p : Bytes) → keeps_point sheet3 f p ≡ keeps_point sheet_all f p

pub record AnyOrderMet : Type 0 where
  pub keeps : KeepAlike sheet_box sheet_turned
  pub public_part : public_of sheet_box beside9 ≡ public_of sheet_turned beside9
  pub released : release sheet_box beside9 (filled 7) ≡ release sheet_turned beside9 (filled 7)
