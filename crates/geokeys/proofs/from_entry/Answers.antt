-- `geokeys::from_entry` meets its contract. Assumes nothing.
use mathlib.Core.Path.{◌≡◌, sym, ap, ◌∙◌, subst}
use mathlib.Core.Bool.{Bool, true, false, ◌||◌}
use mathlib.Core.Option.{Option, none, some}
use Prim.Native.Nat.{ℕ}
use native.Mathlib.Omega.{arith}
use borrow.Author.Tests.{eq-eqb, ne_eqb}
use lib.Dec.{T, eqb}
use Rattle.fields.specs.Bytes.{Bytes}
use Rattle.fields.specs.Checks.{first_failing, Passes}
use Rattle.fields.proofs.CheckLaws.{first_fails, first_clear, all_clear}
use Rattle.geokeys.specs.GeoKeys.{projection_place, payload_at, location_of, count_of, offset_of, entry_checks, either, double_in, text_in, in_parameters, from_entry, GeoKey, Value, Refused}
use Rattle.geokeys.proofs.SearchLaws.{answer_passes, answer_fails, either_first, either_second, placed, nowhere, low_place}
use Rattle.geokeys.proofs.from_entry.Goals.{After-number_at-count, Else-not-location, Else-not-location-count}
use Rattle.geokeys.proofs.from_entry.Goals as goal

-- whether a location is one of the three, and whether a count is right for it
abbrev known : ℕ → Bool
known l = eqb l 0 || (eqb l 34736 || eqb l 34737)

abbrev counted : ℕ → ℕ → Bool
counted l n = eqb l 34737 || eqb n 1

is_true : (b : Bool) → b ≡ true → T b
is_true b e = subst T (sym e) tt

-- the answer by the entry, case by case
module _ (s e : Bytes) where
  refused_43 : known (location_of e) ≡ false → from_entry s (some e) ≡ Refused 43
  unfolding from_entry
  refused_43 h = answer_fails _ _ 43 (first_fails _ _ _ h)

  refused_44 : known (location_of e) ≡ true → counted (location_of e) (count_of e) ≡ false → from_entry s (some e) ≡ Refused 44
  unfolding from_entry
  refused_44 k h = answer_fails _ _ 44 (first_clear _ _ _ (is_true _ k) ∙ first_fails _ _ _ h)

  module _ (k : known (location_of e) ≡ true) (n : counted (location_of e) (count_of e) ≡ true) where
    passes : first_failing (entry_checks e) ≡ Passes
    passes = all_clear (entry_checks e) (is_true _ k, (is_true _ n, tt))

    value : location_of e ≡ 0 → from_entry s (some e) ≡ Value (offset_of e)
    unfolding from_entry
    value l = answer_passes _ _ passes ∙ either_first _ _ _ (eq-eqb _ 0 l)

    elsewhere : (l : ℕ) → l ≡ location_of e → (l ≡ 0 → ⊥) → from_entry s (some e) ≡ in_parameters s e (projection_place s l)
    unfolding from_entry
    elsewhere l f h = rw f (answer_passes _ _ passes ∙ either_second _ _ _ (ne_eqb _ 0 (λ z. h (f ∙ z))))

  -- the answer a by the parameter record, with one and without
  module _ (a : GeoKey) (o : Option ℕ) (searches : a ≡ in_parameters s e o) where
    in_record : (at : ℕ) (p : Bytes) (r : GeoKey) → o ≡ some at → p ≡ payload_at s at
        → r ≡ either (eqb (location_of e) 34736) (double_in e p) (text_in e at p) → r ≡ a
    unfolding in_parameters
    in_record at p r found q h = h ∙ rw q (sym (searches ∙ ap (in_parameters s e) found))

    no_record : o ≡ none → a ≡ Refused 45
    unfolding in_parameters
    no_record found = searches ∙ ap (in_parameters s e) found

-- what was read and tested, over the entry itself
location_is : (c : After-number_at-count) → c.number_at-location.result ≡ location_of c.args.entry.now
unfolding location_of
location_is c = c.number_at-location.ensures.0

location_is_at_else_not_location_count : (c : Else-not-location-count) → c.number_at-location.result ≡ location_of c.args.entry.now
unfolding location_of
location_is_at_else_not_location_count c = c.number_at-location.ensures.0

location_is_at_else_not_location : (c : Else-not-location) → c.number_at-location.result ≡ location_of c.args.entry.now
unfolding location_of
location_is_at_else_not_location c = c.number_at-location.ensures.0

count_is : (c : After-number_at-count) → c.number_at-count.result ≡ count_of c.args.entry.now
unfolding count_of
count_is c = c.number_at-count.ensures.0

count_is_at_else_not_location_count : (c : Else-not-location-count) → c.number_at-count.result ≡ count_of c.args.entry.now
unfolding count_of
count_is_at_else_not_location_count c = c.number_at-count.ensures.0

is_known : (c : Else-not-location) → known (location_of c.args.entry.now) ≡ true
is_known c = ap known (sym (location_is_at_else_not_location c)) ∙ c.if-not-location.false

is_counted : (c : Else-not-location-count) → counted (location_of c.args.entry.now) (count_of c.args.entry.now) ≡ true
is_counted c = rw (← location_is_at_else_not_location_count c, ← count_is_at_else_not_location_count c) c.if-not-location-count.false

pub returns-then-not-location : goal.returns-then-not-location
returns-then-not-location c = sym (refused_43 _ _ (ap known (sym (location_is (goal.at.returns-then-not-location c).After-number_at-count)) ∙ c.if-not-location.true))

pub returns-then-not-location-count : goal.returns-then-not-location-count
returns-then-not-location-count c =
    sym (refused_44 _ _ (is_known (goal.at.returns-then-not-location-count c).Else-not-location) (rw (← location_is (goal.at.returns-then-not-location-count c).After-number_at-count, ← count_is (goal.at.returns-then-not-location-count c).After-number_at-count) c.if-not-location-count.true))

pub returns-then-location-eq0 : goal.returns-then-location-eq0
unfolding offset_of
returns-then-location-eq0 c =
    ap Value c.number_at.ensures.0
    ∙ sym (value _ _ (is_known (goal.at.returns-then-location-eq0 c).Else-not-location) (is_counted (goal.at.returns-then-location-eq0 c).Else-not-location-count) (sym (location_is (goal.at.returns-then-location-eq0 c).After-number_at-count) ∙ c.if-location-eq0.true))

pub payload_at-requires : goal.payload_at-requires
payload_at-requires c = omega (arith, low_place _ _ c.in-Some.is c.find_projection-found.ensures.1)

pub in_payload-requires : goal.in_payload-requires
in_payload-requires c = low_place _ _ c.in-Some.is c.find_projection-found.ensures.1

-- where the location is another than 0
pub returns-in-Some : goal.returns-in-Some
returns-in-Some c =
    let at = goal.at.returns-in-Some c in
    let searched = elsewhere _ _ (is_known at.Else-not-location) (is_counted at.Else-not-location-count) _ (location_is at.After-number_at-count) c.if-location-eq0.false in
    let found = placed _ _ _ c.find_projection-found.ensures.0 c.in-Some.is in
    in_record _ _ _ _ searched _ _ _ found c.payload_at.ensures c.in_payload.ensures

pub returns-in-None : goal.returns-in-None
returns-in-None c =
    let at = goal.at.returns-in-None c in
    let searched = elsewhere _ _ (is_known at.Else-not-location) (is_counted at.Else-not-location-count) _ (location_is at.After-number_at-count) c.if-location-eq0.false in
    sym (no_record _ _ _ _ searched (nowhere _ _ c.find_projection-found.ensures.0 c.in-None.is))
