-- Demand 3 holds. All that is used of the file's layout: a released file passes and has its public part
-- (`released_passes`, `released_public`).
-- Assumes nothing.
use mathlib.Core.Path.{◌≡◌, refl, sym, ap, ◌∙◌}
use Prim.Native.Nat.{ℕ, ◌-◌, ◌≤◌, ◌<◌}
use native.Mathlib.Omega.{arith}
use lib.ListN.{length}
use Rattle.fields.specs.Bytes.{Bytes}
use Rattle.fields.specs.Checks.{Passes}
use Rattle.sheet.specs.Sheet.{sheet_verdict}
use Rattle.publicpart.specs.Public.{Public, public_of}
use Rattle.publicpart.specs.Render.{render}
use Rattle.publicpart.specs.Release.{Outcome, release, Short}
use Rattle.capi.specs.Answers.{released_numbers}
use Rattle.theorems.specs.Terms.{Good, needed, refusal, Accepted, OfOutput}
use Rattle.theorems.specs.Demand3.{in_length, Demand3}
use Rattle.publicpart.proofs.AnswerLaws.{release_long, release_short}
use Rattle.theorems.proofs.ReleaseLaws.{released_public, Known, accepted_output, accepted_means, of_output, again_at, in_length_lem, own_length}

module _ (sheet : Bytes) (sheet_good : sheet_verdict sheet ≡ Passes) where
  -- outputs that are equal have one public part
  public_same : (f g a b : Bytes) → Good f → Good g → needed sheet f ≤ length a → needed sheet g ≤ length b
      → (release sheet f a).1 ≡ (release sheet g b).1 → public_of sheet f ≡ public_of sheet g
  public_same f g a b good_f good_g room_f room_g e =
      sym (released_public sheet f good_f (length a - needed sheet f))
      ∙ ap (public_of sheet) (sym (accepted_output sheet f a sheet_good good_f room_f) ∙ e ∙ accepted_output sheet g b sheet_good good_g room_g)
      ∙ released_public sheet g good_g (length b - needed sheet g)

  release_same : (f g a b : Bytes) → Good f → Good g → length a ≡ length b → needed sheet f ≤ length a
      → needed sheet g ≤ length b
      → public_of sheet f ≡ public_of sheet g → release sheet f a ≡ release sheet g b
  release_same f g a b good_f good_g same room_f room_g e =
      release_long sheet f a good_f.passes sheet_good room_f
      ∙ rw (e, same) (sym (release_long sheet g b good_g.passes sheet_good room_g))

  too_short : (f a : Bytes) → Good f → (n : ℕ) → needed sheet f ≡ n → length a < n
      → (released_numbers (release sheet f a).0 ≡ refusal 30 n) × ((release sheet f a).1 ≡ a)
  unfolding released_numbers refusal
  too_short f a good n e less =
      let r : release sheet f a ≡ (Short (needed sheet f), a) = release_short sheet f a good.passes sheet_good (rw e less) in
      (rw (r, e), rw r)

-- ---- the released file as a file again

again : (sheet f a b : Bytes) (n q r : ℕ) → Accepted sheet f a n q r → n ≤ length b
    → OfOutput sheet f a n (λ file. release sheet file b ≡ in_length n (length b) (release sheet f a))
again sheet f a b n q r h room =
    let m : Known sheet f a n q r = accepted_means sheet f a n q r h in
    of_output sheet f a n q r (λ file. release sheet file b ≡ in_length n (length b) (release sheet f a)) m
    (λ k. again_at sheet f m.sheet_passes m.good k b (omega (arith, m.answer.0)) ∙ sym (in_length_lem sheet f a n q r h (length b)))

again_same : (sheet f a b : Bytes) (n q r : ℕ) → Accepted sheet f a n q r → length b ≡ length a
    → OfOutput sheet f a n (λ file. release sheet file b ≡ release sheet f a)
again_same sheet f a b n q r h same =
    let m : Known sheet f a n q r = accepted_means sheet f a n q r h in
    let room : n ≤ length b = rw (← m.answer.0, same) m.room in
    let g = again sheet f a b n q r h room in
    let e : in_length n (length b) (release sheet f a) ≡ release sheet f a = rw same (own_length sheet f a n q r h) in
    (g.0 ∙ e, g.1 ∙ e)

pub demand3 : Demand3
demand3 =
    record {
      exactly =
          λ sheet f g a b sheet_good good_f good_g same room_f room_g. (
            λ e. public_same sheet sheet_good f g a b good_f good_g (omega arith) (omega arith) e.1,
            λ e.
                let r : release sheet f a ≡ release sheet g b = release_same sheet sheet_good f g a b good_f good_g same (omega arith) (omega arith) e in
                (ap (λ (o : Outcome). released_numbers o.0) r, ap (λ (o : Outcome). o.1) r),
          );
      short =
          λ sheet f g a b sheet_good good_f good_g same public less.
          let x = too_short sheet sheet_good f a good_f (needed sheet f) refl (omega arith) in
          let y = too_short sheet sheet_good g b good_g (needed sheet f) (ap (λ (p : Public). length (render p)) (sym public)) (omega arith) in
          (x.0, x.1, y.0, y.1);
      again = λ sheet f a b n q r h room. again sheet f a b n q r h (omega arith);
      again_same = again_same;
    }
