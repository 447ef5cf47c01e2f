-- `geokeys::in_payload` meets its contract. Assumes nothing.
use mathlib.Core.Path.{◌≡◌, sym, ap, ◌∙◌}
use Prim.Native.Nat.{ℕ, ◌+◌, ◌*◌, ◌≤◌, ◌<◌}
use native.Mathlib.Omega.{arith}
use borrow.Author.Tests.{eq-eqb, ne_eqb}
use lib.ListN.{length}
use lib.Dec.{eqb}
use Rattle.fields.specs.Bytes.{Bytes, part, num}
use Rattle.fields.proofs.CheckLaws.{first_fails, all_clear}
use Rattle.geokeys.specs.GeoKeys.{location_of, count_of, offset_of, either, double_in, text_in, double_checks, text_checks, GeoKey, Double, Text, Refused}
use Rattle.geokeys.proofs.SearchLaws.{answer_passes, answer_fails, either_first, either_second}
use Rattle.geokeys.proofs.in_payload.Goals as goal

-- the answer by the place, in its four cases
module _ (e p : Bytes) (at : ℕ) where
  abbrev answer : GeoKey
  answer = either (eqb (location_of e) 34736) (double_in e p) (text_in e at p)

  double_short : location_of e ≡ 34736 → length p < 8 * offset_of e + 8 → answer ≡ Refused 46
  unfolding double_in
  double_short l h = either_first _ _ _ (eq-eqb _ 34736 l) ∙ answer_fails _ _ 46 (first_fails _ _ _ h)

  double_good : location_of e ≡ 34736 → 8 * offset_of e + 8 ≤ length p → answer ≡ Double (num (part (8 * offset_of e) 8 p))
  unfolding double_in
  double_good l h = either_first _ _ _ (eq-eqb _ 34736 l) ∙ answer_passes _ _ (all_clear (double_checks e p) (h, tt))

  text_short : (location_of e ≡ 34736 → ⊥) → length p < offset_of e + count_of e → answer ≡ Refused 46
  unfolding text_in
  text_short l h = either_second _ _ _ (ne_eqb _ 34736 l) ∙ answer_fails _ _ 46 (first_fails _ _ _ h)

  text_good : (location_of e ≡ 34736 → ⊥) → offset_of e + count_of e ≤ length p → answer ≡ Text (at + 54 + offset_of e) (count_of e)
  unfolding text_in
  text_good l h = either_second _ _ _ (ne_eqb _ 34736 l) ∙ answer_passes _ _ (all_clear (text_checks e p) (h, tt))

pub returns-then-parameters-offset : goal.returns-then-parameters-offset
unfolding location_of offset_of
returns-then-parameters-offset c = sym (double_short _ _ _ (omega arith) (omega arith))

pub returns-then-number_at-eq-DOUBLES : goal.returns-then-number_at-eq-DOUBLES
unfolding location_of offset_of
returns-then-number_at-eq-DOUBLES c =
    let p = c.args.parameters.now in
    ap Double (c.number_at-then-number_at-eq-DOUBLES.ensures.0 ∙ ap (λ (k : ℕ). num (part (8 * k) 8 p)) c.number_at-offset.ensures.0) ∙ sym (double_good _ p _ (omega arith) (omega arith))

pub returns-then-parameters-offset-2 : goal.returns-then-parameters-offset-2
unfolding location_of offset_of count_of
returns-then-parameters-offset-2 c = sym (text_short _ _ _ (λ e. c.if-number_at-eq-DOUBLES.false (c.number_at.ensures.0 ∙ e)) (omega arith))

pub returns : goal.returns
unfolding location_of offset_of count_of
returns c =
    rw (c.number_at-offset.ensures.0, c.number_at-count.ensures.0)
    (sym (text_good _ c.args.parameters.now _ (λ e. c.if-number_at-eq-DOUBLES.false (c.number_at.ensures.0 ∙ e)) (omega arith)))
