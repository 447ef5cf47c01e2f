-- The bounds and bins of a released file are those of the kept points.
-- Assumes nothing.
use mathlib.Core.Path.{◌≡◌, sym, ap, ◌∙◌}
use Prim.Native.Nat.{ℕ, ◌^◌, ◌<◌}
use native.Mathlib.Omega.{arith}
use lib.ListN.{length}
use Rattle.fields.specs.Bytes.{Bytes, part, zeros, numbers_bytes}
use Rattle.scaling.specs.Scaling.{scaling_of}
use Rattle.lasfile.specs.HeaderFields.{format}
use Rattle.lasfile.proofs.Passed.{passed}
use Rattle.publicpart.specs.Bounds.{bins, bounds}
use Rattle.publicpart.specs.Public.{public_of}
use Rattle.publicpart.proofs.PublicLaws.{carried_format, carried_scaled, public_carried, public_points}
use Rattle.publicpart.proofs.Back.{bins_back, bounds_back}
use Rattle.theorems.specs.Terms.{Good}
use Rattle.theorems.specs.ReleasedFile.{points_kept}
use Rattle.theorems.specs.BoundsOfKept.{Bounded, Binned, BoundsOfKept}
use Rattle.theorems.proofs.ReleaseLaws.{public_sound, released, Known, accepted_means, of_output}
use Rattle.theorems.proofs.TotalsBack.{bounded_in, zero_in, binned_in}

-- ---- the released file

module _ (sheet f : Bytes) (good : Good f) (k : ℕ) where
  bounds_are : part 179 48 (released sheet f k) ≡ numbers_bytes 8 (bounds (scaling_of f) (points_kept sheet f))
  bounds_are = bounds_back (public_of sheet f) (public_sound sheet f good) k ∙ rw (public_carried sheet f, carried_scaled f, public_points sheet f)

  bins_are : part 111 20 (released sheet f k) ≡ numbers_bytes 4 (bins 5 (format f) (points_kept sheet f))
  bins_are = bins_back (public_of sheet f) (public_sound sheet f good) k ∙ rw (public_carried sheet f, carried_format f, public_points sheet f)

  few : length (points_kept sheet f) < 256 ^ 4
  few = rw (public_points sheet f) at (public_sound sheet f good).point_count

points_are : (sheet f a : Bytes) (n q r : ℕ) → Known sheet f a n q r → length (points_kept sheet f) ≡ q
points_are sheet f a n q r m = ap length (sym (public_points sheet f)) ∙ m.answer.1

pub bounds_of_kept : BoundsOfKept
bounds_of_kept =
    record {
      bounded =
          λ sheet f a n q r h some axis.
          let m : Known sheet f a n q r = accepted_means sheet f a n q r h in
          of_output sheet f a n q r (λ out. Bounded f out (points_kept sheet f) axis) m
          (λ k.
          bounded_in f (released sheet f k) (points_kept sheet f) (passed f m.good.passes).scaled (bounds_are sheet f m.good k)
          (omega (arith, points_are sheet f a n q r m)) axis);
      no_points =
          λ sheet f a n q r h none.
          let m : Known sheet f a n q r = accepted_means sheet f a n q r h in
          of_output sheet f a n q r (λ out. part 179 48 out ≡ zeros 48) m
          (λ k. zero_in f (released sheet f k) (points_kept sheet f) (bounds_are sheet f m.good k) (points_are sheet f a n q r m ∙ none));
      binned =
          λ sheet f a n q r h.
          let m : Known sheet f a n q r = accepted_means sheet f a n q r h in
          of_output sheet f a n q r (λ out. Binned f out (points_kept sheet f)) m
          (λ k. binned_in f (released sheet f k) (points_kept sheet f) (bins_are sheet f m.good k) (few sheet f m.good k));
    }
