-- Laws of the place of a record: it is searched for among the counted records, one by one.
-- Assumes nothing.
use Rattle.std.proofs.Common.{◌≡◌, ℕ, zero, suc, ◌+◌, true, false, List, [], ◌∷◌, drop, refl, sym, ap, ◌∙◌, Some, None}
use Rattle.std.proofs.lemmas.List.{drop-drop}
use Rattle.std.proofs.Math.Option.{Option, none}
use Rattle.fields.specs.Bytes.{Bytes}
use Rattle.lasfile.specs.HeaderFields.{header_size, record_count}
use Rattle.lasfile.specs.Records.{size_of, places, placed, counted}
use Rattle.geokeys.specs.GeoKeys.{or_later, first, is_projection, projection_place}
use Rattle.geokeys.specs.Places.{place_in}

-- the place of the first that is a projection's
abbrev pub place_among : ℕ → List (ℕ × Bytes) → Option ℕ
place_among id [] = none
place_among id (r ∷ rs) = or_later (is_projection r.1 id 0) r.0 (place_among id rs)

first_placed : (s : Bytes) (id n at : ℕ) → first (is_projection s id) (places 2 n at s) ≡ place_among id (placed n at (drop at s))
unfolding first places placed is_projection
first_placed s id zero at = refl
first_placed s id (suc n) at = rw (drop-drop (size_of 2 (drop at s)) at s) (ap (or_later (is_projection s id at) at) (first_placed s id n (at + size_of 2 (drop at s))))

projection_among : (s : Bytes) (id : ℕ) → projection_place s id ≡ place_among id (counted s)
unfolding projection_place counted
projection_among s id = first_placed s id (record_count s) (header_size s)

module _ (s : Bytes) (id : ℕ) where
  module _ (place : ℕ) (b : Bytes) (left rest : List (ℕ × Bytes)) (here : left ≡ (place, b) ∷ rest) (same : place_among id left ≡ place_among id (counted s)) where
    pub among_here : is_projection b id 0 ≡ true → place_in (Some place) ≡ projection_place s id
    unfolding place_in or_later
    among_here h = sym (projection_among s id ∙ rw (← same, here, h) refl)

    pub among_later : is_projection b id 0 ≡ false → place_among id rest ≡ place_among id (counted s)
    unfolding or_later
    among_later h = sym (rw (← same, here, h) refl)

  pub among_none : (left : List (ℕ × Bytes)) → left ≡ [] → place_among id left ≡ place_among id (counted s) → place_in None ≡ projection_place s id
  unfolding place_in
  among_none left e same = sym (projection_among s id ∙ rw (← same, e) refl)
