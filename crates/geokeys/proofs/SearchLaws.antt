-- Laws of the first that passes a test, of what a search found, and of an answer after a verdict.
-- Assumes nothing.
use mathlib.Core.Path.{◌≡◌, refl, sym, ap, ◌∙◌, subst}
use mathlib.Core.Bool.{Bool, true, false}
use mathlib.Core.List.{List, [], ◌∷◌, ◌++◌}
use mathlib.Core.Option.{Option, none, some}
use Rattle.std.specs.Prelude.{IfSome, Some, None}
use Rattle.std.specs.Prelude as std
use Prim.Native.Nat.{ℕ, ◌+◌, ◌*◌, ◌≤◌, ◌<◌, ◌^◌}
use lib.ListN.{length}
use Rattle.fields.specs.Lists.{All}
use Rattle.fields.specs.Bytes.{Bytes}
use Rattle.fields.proofs.CheckLaws.{then_passes, then_passed, then_fails, none_fails}
use Rattle.fields.specs.Checks.{first_failing, Verdict, Passes, Fails}
use Rattle.lasfile.specs.FileChecks.{file_verdict}
use Rattle.geokeys.specs.Places.{DirectoryAt, place_in, place_if, Searches}
use Rattle.geokeys.specs.GeoKeys.{GeoKey, Refused, or_later, first, projection_place, payload_at, key_count, directory_checks, entries, answer_if, either, payload_in, directory_of, directory_verdict, entries_in, searched, search_verdict}

module _ {ℓ} {A : Type ℓ} (p : A → Bool) (x : A) (xs : List A) where
  pub first_here : p x ≡ true → first p (x ∷ xs) ≡ some x
  unfolding first or_later
  first_here e = rw e

  pub first_later : p x ≡ false → first p (x ∷ xs) ≡ first p xs
  unfolding first or_later
  first_later e = rw e

pub first-none {ℓ} : {A : Type ℓ} (p : A → Bool) → first p [] ≡ none
unfolding first
first-none p = refl

-- elements that do not pass, before others and behind them
pub first_past {ℓ} : {A : Type ℓ} (p : A → Bool) (xs ys : List A) → All (λ x. p x ≡ false) xs → first p (xs ++ ys) ≡ first p ys
first_past p [] ys h = refl
first_past p (x ∷ xs) ys h = first_later p x (xs ++ ys) h.0 ∙ first_past p xs ys h.1

pub first_before {ℓ} : {A : Type ℓ} (p : A → Bool) (xs ys : List A) → All (λ y. p y ≡ false) ys → first p (xs ++ ys) ≡ first p xs
unfolding first
first_before p [] [] h = refl
first_before p [] (y ∷ ys) h = first_later p y ys h.0 ∙ first_before p [] ys h.1
first_before p (x ∷ xs) ys h = ap (or_later (p x) x) (first_before p xs ys h)

pub answer_passes : (v : Verdict) (g : GeoKey) → v ≡ Passes → answer_if v g ≡ g
unfolding answer_if
answer_passes v g e = rw e

pub answer_fails : (v : Verdict) (g : GeoKey) (n : ℕ) → v ≡ Fails n → answer_if v g ≡ Refused n
unfolding answer_if
answer_fails v g n e = rw e

pub either_first : (b : Bool) (g h : GeoKey) → b ≡ true → either b g h ≡ g
unfolding either
either_first b g h e = rw e

pub either_second : (b : Bool) (g h : GeoKey) → b ≡ false → either b g h ≡ h
unfolding either
either_second b g h e = rw e

-- ---- what a search found

module _ (r : std.Option ℕ) where
  pub placed : (o : Option ℕ) (at : ℕ) → place_in r ≡ o → r ≡ Some at → o ≡ some at
  unfolding place_in
  placed o at p e = sym p ∙ ap place_in e

  pub nowhere : (o : Option ℕ) → place_in r ≡ o → r ≡ None → o ≡ none
  unfolding place_in
  nowhere o p e = sym p ∙ ap place_in e

  pub low_place : (at : ℕ) → r ≡ Some at → IfSome r (λ at. at < 2 ^ 50) → at < 2 ^ 50
  low_place at e h = subst (λ (o : std.Option ℕ). IfSome o (λ at. at < 2 ^ 50)) e h

-- ---- the directory that is searched

-- it has room for as many entries as it states
pub room_for_keys : (d : Bytes) → first_failing (directory_checks d) ≡ Passes → 8 + 8 * key_count d ≤ length d
room_for_keys d passes = (none_fails (directory_checks d) passes).0.1.1

module _ (s : Bytes) where
  pub file_refused : (n : ℕ) → file_verdict s ≡ Fails n → search_verdict s ≡ Fails n
  unfolding search_verdict
  file_refused n e = then_fails _ _ n e

  module _ (passes : file_verdict s ≡ Passes) where
    by_directory : search_verdict s ≡ directory_verdict (directory_of s)
    unfolding search_verdict
    by_directory = then_passes _ _ passes

    pub no_directory : projection_place s 34735 ≡ none → search_verdict s ≡ Fails 40
    unfolding directory_of payload_in directory_verdict
    no_directory e = by_directory ∙ rw e

    -- the answer by the verdict on the directory at a place
    pub directory_at : (at : ℕ) (r : DirectoryAt) → at < 2 ^ 50 → projection_place s 34735 ≡ some at
        → r ≡ place_if (first_failing (directory_checks (payload_at s at))) at → Searches s r
    directory_at at r low found e = subst (Searches s) (sym e) (decide (first_failing (directory_checks (payload_at s at))) (by_directory ∙ ap directory_verdict is ∙ verdict_of))
      where
        is : directory_of s ≡ some (payload_at s at)
        is = unfold directory_of payload_in in rw found

        verdict_of : directory_verdict (some (payload_at s at)) ≡ first_failing (directory_checks (payload_at s at))
        verdict_of = unfold directory_verdict in refl

        decide : (v : Verdict) → search_verdict s ≡ v → Searches s (place_if v at)
        decide Passes v_is = unfold place_if in (v_is, is, low)
        decide (Fails n) v_is = unfold place_if in v_is

  pub room_for_entries : (d : Bytes) → search_verdict s ≡ Passes → directory_of s ≡ some d → 8 + 8 * key_count d ≤ length d
  unfolding search_verdict directory_verdict
  room_for_entries d e is = room_for_keys d (rw is at (then_passed _ _ e))

  pub searched_is : (d : Bytes) → directory_of s ≡ some d → searched s ≡ entries d
  unfolding searched entries_in
  searched_is d e = rw e
