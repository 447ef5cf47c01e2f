-- The release that is written from a cutting list: where the list is long enough it is the release, and so demand 3
-- holds of it. The list itself shows places, and is outside demand 3.
-- Assumes nothing.
use Rattle.std.specs.Prelude.{◌≡◌, ◌↔◌, ℕ, ◌≤◌, ◌<◌, List, length, take}
use Rattle.fields.specs.Bytes.{Bytes, AllBytes}
use Rattle.fields.specs.Checks.{Passes}
use Rattle.lasfile.specs.FileChecks.{file_verdict}
use Rattle.sheet.specs.Sheet.{sheet_verdict}
use Rattle.publicpart.specs.Public.{public_of}
use Rattle.publicpart.specs.declared.Span.{Span}
use Rattle.publicpart.specs.Release.{Released, Outcome, release}
use Rattle.publicpart.specs.Cutting.{cutting_lines, fill, release_by_list}
use Rattle.capi.specs.Answers.{released_numbers}
use Rattle.theorems.specs.Terms.{Good, needed, enough, refusal}
use Rattle.theorems.specs.Demand3.{Same, in_length}

-- answer and output, without the list
abbrev pub by_list : Bytes → Bytes → Bytes → List Span → Outcome
by_list sheet file out list = (release_by_list sheet file out list).0

pub record AcceptedByList (sheet f a : Bytes) (l : List Span) (n points records : ℕ) : Type 0 where
  -- the source f is bytes
  pub bytes : AllBytes f
  -- its release into the output a, by the list l, is accepted, with these numbers
  pub answer : (by_list sheet f a l).0 ≡ Released n points records

-- of the output as a file, with the zeros behind the returned length n and without
abbrev pub OfOutputByList : Bytes → Bytes → Bytes → List Span → ℕ → (Bytes → Type 0) → Type 0
OfOutputByList sheet f a l n P = P (by_list sheet f a l).1 × P (take n (by_list sheet f a l).1)

pub record ByList : Type 0 where
  -- for every file, sheet and output, and every list that is long enough: the same answer and output as the release. Of
  -- a file or sheet that does not pass, nothing is asked of the list
  pub same : (sheet file out : Bytes) (list : List Span)
      → (file_verdict file ≡ Passes → sheet_verdict sheet ≡ Passes → enough sheet file ≤ length list)
      → by_list sheet file out list ≡ release sheet file out
  -- an accepted one leaves the cutting list of the file at the front of the list
  pub listed : (sheet file out : Bytes) (list : List Span) (n points records : ℕ)
      → (by_list sheet file out list).0 ≡ Released n points records
      → (release_by_list sheet file out list).1 ≡ fill (cutting_lines sheet file) list

-- demand 3, each list long enough
pub record Demand3ByList : Type 0 where
  -- into outputs of one length that have room, two files give the same numbers and bytes exactly if their public parts
  -- are the same
  pub exactly : (sheet f g a b : Bytes) (l m : List Span) → sheet_verdict sheet ≡ Passes → Good f → Good g
      → length a ≡ length b → needed sheet f ≤ length a → needed sheet g ≤ length b
      → enough sheet f ≤ length l → enough sheet g ≤ length m
      → Same (by_list sheet f a l) (by_list sheet g b m) ↔ (public_of sheet f ≡ public_of sheet g)
  -- into outputs that are too short, two files with one public part give 30 and the same needed length, and change
  -- nothing
  pub short : (sheet f g a b : Bytes) (l m : List Span) → sheet_verdict sheet ≡ Passes → Good f → Good g
      → length a ≡ length b → enough sheet f ≤ length l → enough sheet g ≤ length m
      → public_of sheet f ≡ public_of sheet g → length a < needed sheet f
      → (released_numbers (by_list sheet f a l).0 ≡ refusal 30 (needed sheet f)) × ((by_list sheet f a l).1 ≡ a)
      × (released_numbers (by_list sheet g b m).0 ≡ refusal 30 (needed sheet f)) × ((by_list sheet g b m).1 ≡ b)
  -- the output of an accepted one, released so again into any output that has room: the same answer, and the released
  -- file with zeros behind it
  pub again : (sheet f a b : Bytes) (l m : List Span) (n points records : ℕ)
      → AcceptedByList sheet f a l n points records → n ≤ length b → enough sheet f ≤ length m
      → OfOutputByList sheet f a l n (λ file. by_list sheet file b m ≡ in_length n (length b) (by_list sheet f a l))
  -- into an output of the first one's length: the same outcome
  pub again_same : (sheet f a b : Bytes) (l m : List Span) (n points records : ℕ)
      → AcceptedByList sheet f a l n points records → length b ≡ length a → enough sheet f ≤ length m
      → OfOutputByList sheet f a l n (λ file. by_list sheet file b m ≡ by_list sheet f a l)
