-- What is proved of boxes on a sheet: which places they keep, that a point outside all of them neither goes out nor
-- shows in what does, that a larger box keeps what a smaller one keeps, and that one around everything is as none.
-- Assumes nothing.
use Rattle.std.specs.Prelude.{◌≡◌, ◌↔◌, ℕ, ◌≤◌, true, false, pos, negsuc, ◌≤ℤ◌}
use mathlib.Core.List.{List, Memᴰ}
use Rattle.fields.specs.Lists.{All, kept}
use Rattle.fields.specs.Bytes.{Bytes}
use Rattle.points.specs.Raw.{stored}
use Rattle.sheet.specs.Sheet.{kind, low, high, lines}
use Rattle.sheet.specs.Keeping.{contains_point, has_box, keeps_class, keeps_place, keeps_point}
use Rattle.publicpart.specs.Public.{carried_of, contents, public_of}
use Rattle.theorems.specs.Terms.{Accepted, OfOutput}
use Rattle.theorems.specs.Sheets.{SomeLine}

-- ---- which places are kept

-- on every axis the stored value is from the box's low to its high, edges included
abbrev pub Inside : Bytes → Bytes → Type 0
Inside l p = (axis : ℕ) → axis ≤ 2 → (low axis l ≤ℤ stored axis p) × (stored axis p ≤ℤ high axis l)

pub record KeptByBoxes : Type 0 where
  -- a line contains a point exactly if it is of kind 3 and the point lies inside
  pub inside : (l p : Bytes) → (contains_point l p ≡ true) ↔ ((kind l ≡ 3) × Inside l p)
  -- a place is kept exactly if, where any kind 3 line stands, the point lies inside one of them
  pub place : (sheet p : Bytes)
      → (keeps_place sheet p ≡ true)
      ↔ (SomeLine (lines sheet) (λ l. kind l ≡ 3) → SomeLine (lines sheet) (λ l. (kind l ≡ 3) × Inside l p))
  -- a sheet without a line of kind 1 keeps no point, whatever boxes it has
  pub no_class : (sheet : Bytes) → All (λ l. kind l ≡ 1 → ⊥) (lines sheet)
      → (f : ℕ) (p : Bytes) → keeps_point sheet f p ≡ false

-- ---- points outside all boxes

-- the points of a file whose place a sheet keeps, in order
abbrev pub inside_of : Bytes → Bytes → List Bytes
inside_of sheet f = kept (keeps_place sheet) (contents f).points

pub record NoneOutside : Type 0 where
  -- no point of a released file lies outside all boxes
  pub none_goes_out : (sheet f a : Bytes) (n points records : ℕ) → Accepted sheet f a n points records
      → OfOutput sheet f a n (λ out. All (λ p. keeps_place sheet p ≡ true) (contents out).points)
  -- two files that differ in points outside all boxes alone have the same public part
  pub same_public_part : (sheet f g : Bytes) → carried_of f ≡ carried_of g → (contents f).records ≡ (contents g).records
      → inside_of sheet f ≡ inside_of sheet g
      → public_of sheet f ≡ public_of sheet g

-- ---- larger boxes

-- box m is at least as large as box l: on every axis its low is no higher and its high no lower
abbrev pub Encloses : Bytes → Bytes → Type 0
Encloses m l = (axis : ℕ) → axis ≤ 2 → (low axis m ≤ℤ low axis l) × (high axis l ≤ℤ high axis m)

-- a box from -2^31 to 2^31 - 1 on all axes
abbrev pub Everything : Bytes → Type 0
Everything l =
    (kind l ≡ 3)
    × ((axis : ℕ) → axis ≤ 2 → (low axis l ≡ negsuc 2147483647) × (high axis l ≡ pos 2147483647))

pub record LargerBoxes : Type 0 where
  -- a larger box contains every point that a smaller one contains
  pub contains : (m l p : Bytes) → kind m ≡ 3 → Encloses m l → contains_point l p ≡ true → contains_point m p ≡ true
  -- a sheet that keeps the same classes, and has for every box of another one a box that is at least as large, keeps
  -- every point that the other one keeps
  pub keeps : (s t : Bytes) → ((c : ℕ) → keeps_class s c ≡ keeps_class t c) → has_box s ≡ true
      → ((l : Bytes) → Memᴰ l (lines s) → kind l ≡ 3 → SomeLine (lines t) (λ m. (kind m ≡ 3) × Encloses m l))
      → (f : ℕ) (p : Bytes) → keeps_point s f p ≡ true → keeps_point t f p ≡ true
  -- a sheet with a box around everything keeps what one with the same classes and no box keeps
  pub as_none : (s t : Bytes) → ((c : ℕ) → keeps_class s c ≡ keeps_class t c) → has_box s ≡ false
      → SomeLine (lines t) Everything
      → (f : ℕ) (p : Bytes) → keeps_point s f p ≡ keeps_point t f p
