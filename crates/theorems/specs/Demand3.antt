-- Demand 3: an accepted release shows the public part and nothing else, and releasing again changes nothing.
-- Assumes nothing.
use Rattle.std.specs.Prelude.{◌≡◌, ◌↔◌, ℕ, ◌-◌, ◌≤◌, ◌<◌, ◌++◌, length, take}
use Rattle.fields.specs.Bytes.{Bytes, zeros}
use Rattle.fields.specs.Checks.{Passes}
use Rattle.sheet.specs.Sheet.{sheet_verdict}
use Rattle.publicpart.specs.Public.{public_of}
use Rattle.publicpart.specs.Release.{Outcome, release}
use Rattle.capi.specs.Answers.{released_numbers}
use Rattle.theorems.specs.Terms.{Good, needed, refusal, Accepted, OfOutput}

-- the same four numbers, and the same output whole
abbrev pub Same : Outcome → Outcome → Type 0
Same x y = (released_numbers x.0 ≡ released_numbers y.0) × (x.1 ≡ y.1)

-- the outcome of a release with its output cut at n and filled with zeros to another length
abbrev pub in_length : ℕ → ℕ → Outcome → Outcome
in_length n other o = (o.0, take n o.1 ++ zeros (other - n))

pub record Demand3 : Type 0 where
  -- into outputs of one length that have room, two files give the same numbers and bytes exactly if their public parts
  -- are the same
  pub exactly : (sheet f g a b : Bytes) → sheet_verdict sheet ≡ Passes → Good f → Good g → length a ≡ length b
      → needed sheet f ≤ length a → needed sheet g ≤ length b
      → Same (release sheet f a) (release sheet g b) ↔ (public_of sheet f ≡ public_of sheet g)
  -- into outputs that are too short, two files with one public part give 30 and the same needed length, and change
  -- nothing
  pub short : (sheet f g a b : Bytes) → sheet_verdict sheet ≡ Passes → Good f → Good g → length a ≡ length b
      → public_of sheet f ≡ public_of sheet g → length a < needed sheet f
      → (released_numbers (release sheet f a).0 ≡ refusal 30 (needed sheet f)) × ((release sheet f a).1 ≡ a)
      × (released_numbers (release sheet g b).0 ≡ refusal 30 (needed sheet f)) × ((release sheet g b).1 ≡ b)
  -- the output of an accepted release, released again into any output that has room: the same answer, and the released
  -- file with zeros behind it
  pub again : (sheet f a b : Bytes) (n points records : ℕ) → Accepted sheet f a n points records → n ≤ length b
      → OfOutput sheet f a n (λ file. release sheet file b ≡ in_length n (length b) (release sheet f a))
  -- into an output of the first one's length: the same outcome
  pub again_same : (sheet f a b : Bytes) (n points records : ℕ) → Accepted sheet f a n points records
      → length b ≡ length a
      → OfOutput sheet f a n (λ file. release sheet file b ≡ release sheet f a)
