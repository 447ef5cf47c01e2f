-- What gives itself when it is released is what a release gave, and the other way round.
-- Assumes nothing.
use mathlib.Core.Path.{◌≡◌, sym, ap, ◌∙◌, subst}
use mathlib.Core.Logic.{◌⊎◌, inl, inr}
use Prim.Native.Nat.{ℕ, ◌+◌, ◌-◌, ◌≤◌}
use native.Mathlib.Omega.{arith}
use lib.ListN.{length, take, length-append, length-replicate}
use Rattle.fields.specs.Bytes.{Bytes, AllBytes}
use Rattle.fields.specs.Checks.{Passes}
use Rattle.sheet.specs.Sheet.{sheet_verdict}
use Rattle.publicpart.specs.Public.{public_of}
use Rattle.publicpart.specs.Render.{render}
use Rattle.publicpart.specs.Release.{Outcome, release}
use Rattle.publicpart.proofs.AnswerLaws.{release_long}
use Rattle.theorems.specs.Terms.{Good, needed, OfOutput}
use Rattle.theorems.specs.Recognised.{OutputUnder, GivesItself, Recognised}
use Rattle.theorems.proofs.ReleaseLaws.{released, released_passes, Known, accepted_means, of_output, again_at}
use Rattle.theorems.proofs.NeverLonger.{needed_most}

-- the released file with k zeros behind it gives itself
abbrev Itself : Bytes → Bytes → Type 0
Itself sheet g = (b : Bytes) → length b ≡ length g → GivesItself sheet g b

itself_at : (sheet f : Bytes) → sheet_verdict sheet ≡ Passes → Good f → (k : ℕ) → Itself sheet (released sheet f k)
itself_at sheet f sheet_good good k b same =
    let x : Bytes = render (public_of sheet f) in
    let long : length b ≡ needed sheet f + k = same ∙ simp (length-append, length-replicate) in
    let left : length b - needed sheet f ≡ k = omega arith in
    record {
      file_passes = released_passes sheet f good k;
      sheet_passes = sheet_good;
      itself = ap (λ (o : Outcome). o.1) (again_at sheet f sheet_good good k b (omega arith)) ∙ rw left;
    }

gives_itself : (sheet g : Bytes) → OutputUnder sheet g → Itself sheet g
gives_itself sheet g o =
    let m : Known sheet o.source o.room o.n o.points o.records =
    accepted_means sheet o.source o.room o.n o.points o.records o.accepted in
    by_case o.is
    (of_output sheet o.source o.room o.n o.points o.records (Itself sheet) m (itself_at sheet o.source m.sheet_passes m.good))
  where
    by_case : (g ≡ (release sheet o.source o.room).1) ⊎ (g ≡ take o.n (release sheet o.source o.room).1)
        → OfOutput sheet o.source o.room o.n (Itself sheet) → Itself sheet g
    by_case (inl e) h = subst (Itself sheet) (sym e) h.0
    by_case (inr e) h = subst (Itself sheet) (sym e) h.1

-- it is its own output: there is room, since what is released is never longer than its source
its_own : (sheet g b : Bytes) → AllBytes g → length b ≡ length g → GivesItself sheet g b → OutputUnder sheet g
its_own sheet g b bytes same i =
    let good : Good g = record { bytes = bytes; passes = i.file_passes } in
    let room : needed sheet g ≤ length b = omega (arith, needed_most sheet g good) in
    record {
      source = g;
      room = b;
      n = needed sheet g;
      points = length (public_of sheet g).points;
      records = length (public_of sheet g).records;
      accepted =
          record { bytes = bytes; answer = ap (λ (o : Outcome). o.0) (release_long sheet g b i.file_passes i.sheet_passes room) };
      is = inl (sym i.itself);
    }

pub recognised : Recognised
recognised = record { recognised = λ sheet g b bytes same. (λ o. gives_itself sheet g o b same, its_own sheet g b bytes same) }
