-- What is proved of a point's class and flags: what its classification byte says, which points a sheet keeps by it, and
-- that a withheld point neither goes out nor shows in what does.
-- Assumes nothing.
use Rattle.std.specs.Prelude.{◌≡◌, ◌↔◌, ℕ, ◌+◌, ◌*◌, ◌≤◌, true, false, not, List}
use mir.Val.{bool_byte}
use Rattle.fields.specs.Lists.{All, kept}
use Rattle.fields.specs.Bytes.{Bytes, AllBytes}
use Rattle.points.specs.Raw.{class_byte, class_of, synthetic_of, key_point_of, withheld_of}
use Rattle.sheet.specs.Keeping.{keeps_class, keeps_place, keeps_point}
use Rattle.lasfile.specs.HeaderFields.{format}
use Rattle.publicpart.specs.Public.{carried_of, contents, public_of}
use Rattle.theorems.specs.Terms.{Accepted, OfOutput}

pub record Classified : Type 0 where
  -- a class is from 0 to 31
  pub to_31 : (f : ℕ) (p : Bytes) → class_of f p ≤ 31
  -- a classification byte is class and flags, joined, and nothing else
  pub joined : (f : ℕ) (p : Bytes) → AllBytes p
      → class_byte f p
      ≡ class_of f p + 32 * bool_byte (synthetic_of f p) + 64 * bool_byte (key_point_of f p) + 128 * bool_byte (withheld_of f p)

pub record KeptByClass : Type 0 where
  -- a point is kept exactly if its class is kept, it is not withheld, and its place is kept
  pub exactly : (sheet : Bytes) (f : ℕ) (p : Bytes)
      → (keeps_point sheet f p ≡ true)
      ↔ ((keeps_class sheet (class_of f p) ≡ true) × (withheld_of f p ≡ false) × (keeps_place sheet p ≡ true))
  -- a withheld point is never kept, whatever the sheet says
  pub never_withheld : (sheet : Bytes) (f : ℕ) (p : Bytes) → withheld_of f p ≡ true → keeps_point sheet f p ≡ false
  -- of two points of one class, both withheld or neither, and both in a place that is kept or neither, both are kept or
  -- neither, whatever their other flags are
  pub other_flags : (sheet : Bytes) (f : ℕ) (p q : Bytes) → class_of f p ≡ class_of f q → withheld_of f p ≡ withheld_of f q
      → keeps_place sheet p ≡ keeps_place sheet q
      → keeps_point sheet f p ≡ keeps_point sheet f q
  -- what a sheet says of classes above 31 does not matter to points
  pub above_31 : (s t : Bytes) → ((c : ℕ) → c ≤ 31 → keeps_class s c ≡ keeps_class t c)
      → ((p : Bytes) → keeps_place s p ≡ keeps_place t p)
      → (f : ℕ) (p : Bytes) → keeps_point s f p ≡ keeps_point t f p

-- the points of a file that are not withheld, in order
abbrev pub not_withheld : Bytes → List Bytes
not_withheld f = kept (λ p. not (withheld_of (format f) p)) (contents f).points

pub record NoneWithheld : Type 0 where
  -- no point of a released file is withheld
  pub none_goes_out : (sheet f a : Bytes) (n points records : ℕ) → Accepted sheet f a n points records
      → OfOutput sheet f a n (λ out. All (λ p. withheld_of (format out) p ≡ false) (contents out).points)
  -- two files that differ in withheld points alone have the same public part under every sheet
  pub same_public_part : (sheet f g : Bytes) → carried_of f ≡ carried_of g → (contents f).records ≡ (contents g).records
      → not_withheld f ≡ not_withheld g
      → public_of sheet f ≡ public_of sheet g
