-- A released file is never longer than its source, and passes the file checks.
-- Assumes nothing.
use mathlib.Core.Path.{◌≡◌, ap}
use Prim.Native.Nat.{◌≤◌}
use native.Mathlib.Omega.{arith}
use lib.ListN.{length}
use Rattle.fields.specs.Bytes.{Bytes}
use Rattle.fields.specs.Checks.{Passes}
use Rattle.lasfile.specs.FileChecks.{file_verdict}
use Rattle.lasfile.proofs.Passed.{passed}
use Rattle.publicpart.specs.Public.{public_of}
use Rattle.publicpart.specs.Release.{Outcome}
use Rattle.capi.specs.Answers.{released_numbers}
use Rattle.publicpart.proofs.Back.{length-render}
use Rattle.publicpart.proofs.LengthLaws.{no_longer}
use Rattle.theorems.specs.Terms.{Good, needed}
use Rattle.theorems.specs.ReleasedFile.{NeverLonger}
use Rattle.publicpart.proofs.AnswerLaws.{release_long}
use Rattle.theorems.proofs.ReleaseLaws.{public_sound, released_passes, Known, accepted_means, of_output}

pub needed_most : (sheet f : Bytes) → Good f → needed sheet f ≤ length f
needed_most sheet f good =
    omega (arith, length-render (public_of sheet f) (public_sound sheet f good), no_longer f good.bytes (passed f good.passes) sheet)

pub never_longer : NeverLonger
unfolding released_numbers
never_longer =
    record {
      no_longer =
          λ sheet f a n q r h.
          let m : Known sheet f a n q r = accepted_means sheet f a n q r h in
          omega (arith, needed_most sheet f m.good, m.answer.0);
      passes =
          λ sheet f a n q r h.
          let m : Known sheet f a n q r = accepted_means sheet f a n q r h in
          of_output sheet f a n q r (λ file. file_verdict file ≡ Passes) m (released_passes sheet f m.good);
      room =
          λ sheet f a sheet_good good h.
          ap (λ (o : Outcome). (released_numbers o.0).number)
          (release_long sheet f a good.passes sheet_good (omega (arith, needed_most sheet f good)));
    }
