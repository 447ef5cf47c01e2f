-- What is read in a released file, and what an accepted release says of its file, sheet and output.
-- Assumes nothing.
use mathlib.Core.Path.{◌≡◌, sym, ap, ◌∙◌, subst}
use Prim.Native.Nat.{ℕ, ◌-◌, ◌≤◌}
use native.Mathlib.Omega.{arith}
use mathlib.Core.List.{◌++◌, append-nil}
use lib.ListN.{length, take}
use lib.Seq.{take_at}
use Rattle.fields.specs.Bytes.{Bytes, zeros}
use Rattle.fields.specs.Checks.{Passes}
use Rattle.lasfile.specs.FileChecks.{file_verdict}
use Rattle.lasfile.proofs.Passed.{passed, passes}
use Rattle.sheet.specs.Sheet.{sheet_verdict}
use Rattle.publicpart.specs.Public.{contents, public_of}
use Rattle.publicpart.specs.Render.{render}
use Rattle.publicpart.specs.Release.{Answer, Released, Outcome, release}
use Rattle.publicpart.proofs.AnswerLaws.{release_long, Taken, release_taken}
use Rattle.publicpart.proofs.PublicLaws.{public_again}
use Rattle.publicpart.proofs.Sound.{Sound, sound_public}
use Rattle.publicpart.proofs.Back.{file_passes, contents_back}
use Rattle.theorems.specs.Terms.{Good, needed, Accepted, OfOutput}

-- ---- the released file, read as a file

-- the released file of a good file, with k zeros behind it
abbrev pub released : Bytes → Bytes → ℕ → Bytes
released sheet f k = render (public_of sheet f) ++ zeros k

module _ (sheet f : Bytes) (good : Good f) where
  pub public_sound : Sound (public_of sheet f)
  public_sound = sound_public sheet f good.bytes (passed f good.passes)

  module _ (k : ℕ) where
    pub released_passes : file_verdict (released sheet f k) ≡ Passes
    released_passes = passes (released sheet f k) (file_passes (public_of sheet f) public_sound k)

    pub released-contents : contents (released sheet f k) ≡ public_of sheet f
    released-contents = contents_back (public_of sheet f) public_sound k

    pub released_public : public_of sheet (released sheet f k) ≡ public_of sheet f
    released_public = public_again sheet f (released sheet f k) released-contents

-- what a release of f under the sheet answers, and the outcome in an output of a length that has room
abbrev pub answer_of : Bytes → Bytes → Answer
answer_of sheet f = Released (needed sheet f) (length (public_of sheet f).points) (length (public_of sheet f).records)

abbrev pub into_length : Bytes → Bytes → ℕ → Outcome
into_length sheet f n = (answer_of sheet f, released sheet f (n - needed sheet f))

-- releasing the released file
pub again_at : (sheet f : Bytes) → sheet_verdict sheet ≡ Passes → Good f → (k : ℕ) (b : Bytes)
    → needed sheet f ≤ length b
    → release sheet (released sheet f k) b ≡ into_length sheet f (length b)
again_at sheet f sheet_good good k b room =
    let e : public_of sheet (released sheet f k) ≡ public_of sheet f = released_public sheet f good k in
    release_long sheet (released sheet f k) b (released_passes sheet f good k) sheet_good (rw e room) ∙ rw e

-- ---- an accepted release

-- what an accepted release says of its file, sheet and output
pub record Known (sheet f a : Bytes) (n q r : ℕ) : Type 0 where
  pub sheet_passes : sheet_verdict sheet ≡ Passes
  pub good : Good f
  pub room : needed sheet f ≤ length a
  pub answer : (needed sheet f ≡ n) × (length (public_of sheet f).points ≡ q) × (length (public_of sheet f).records ≡ r)
  -- the output, with its zeros and cut at the returned length
  pub output : (release sheet f a).1 ≡ released sheet f (length a - needed sheet f)
  pub cut_output : take n (release sheet f a).1 ≡ released sheet f 0

pub accepted_output : (sheet f a : Bytes) → sheet_verdict sheet ≡ Passes → Good f → needed sheet f ≤ length a
    → (release sheet f a).1 ≡ released sheet f (length a - needed sheet f)
accepted_output sheet f a sheet_good g room = ap (λ (o : Outcome). o.1) (release_long sheet f a g.passes sheet_good room)

pub accepted_means : (sheet f a : Bytes) (n q r : ℕ) → Accepted sheet f a n q r → Known sheet f a n q r
accepted_means sheet f a n q r h =
    let t : Taken sheet f a n q r = release_taken sheet f a n q r h.answer in
    let g : Good f = record { bytes = λ i. omega (arith, h.bytes i); passes = t.file_passes } in
    let o : (release sheet f a).1 ≡ released sheet f (length a - needed sheet f) = accepted_output sheet f a t.sheet_passes g t.room in
    let x : Bytes = render (public_of sheet f) in
    record {
      sheet_passes = t.sheet_passes;
      good = g;
      room = t.room;
      answer = t.answer;
      output = o;
      cut_output =
          ap (take n) o ∙ take_at x (zeros (length a - length x)) n t.answer.0 ∙ sym (append-nil x);
    }

-- an accepted outcome, cut at n and filled with zeros to another length
module _ (sheet f a : Bytes) (n q r : ℕ) (h : Accepted sheet f a n q r) where
  pub in_length_lem : (other : ℕ)
      → ((release sheet f a).0, take n (release sheet f a).1 ++ zeros (other - n)) ≡ into_length sheet f other
  in_length_lem other =
      let m : Known sheet f a n q r = accepted_means sheet f a n q r h in
      let e : (release sheet f a).0 ≡ answer_of sheet f = ap (λ (o : Outcome). o.0) (release_long sheet f a m.good.passes m.sheet_passes m.room) in
      rw (e, m.cut_output, append-nil (render (public_of sheet f)), ← m.answer.0)

  -- to its own length, it is itself
  pub own_length : ((release sheet f a).0, take n (release sheet f a).1 ++ zeros (length a - n)) ≡ release sheet f a
  own_length =
      let m : Known sheet f a n q r = accepted_means sheet f a n q r h in
      in_length_lem (length a) ∙ sym (release_long sheet f a m.good.passes m.sheet_passes m.room)

-- what holds of the released file with k zeros behind it, for every k, holds of the output
pub of_output : (sheet f a : Bytes) (n q r : ℕ) (P : Bytes → Type 0) → Known sheet f a n q r
    → ((k : ℕ) → P (released sheet f k)) → OfOutput sheet f a n P
of_output sheet f a n q r P m so = (subst P (sym m.output) (so (length a - needed sheet f)), subst P (sym m.cut_output) (so 0))
