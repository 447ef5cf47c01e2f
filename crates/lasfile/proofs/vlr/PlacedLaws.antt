-- The counted records of a file, one at a time, and where they end.
-- Assumes nothing.
use Rattle.std.proofs.Common.{◌≡◌, ℕ, zero, suc, ◌+◌, ◌*◌, ◌^◌, ◌<◌, Bool, true, false, ◌&&◌, leb, List, [], ◌∷◌, map, length, drop, refl, sym, ap, ◌∙◌, add-one, arith, rules}
use Rattle.std.proofs.lemmas.Grind.{common_steps}
use Rattle.std.proofs.lemmas.List.{drop-drop}
use Rattle.std.specs.List.{list_all}
use Rattle.fields.specs.Bytes.{Bytes, part}
use Rattle.fields.proofs.ByteLaws.{from_place}
use Rattle.lasfile.specs.HeaderFields.{header_size, record_count}
use Rattle.lasfile.specs.Records.{Record, record_of, size_of, places, walk, placed, counted, walk_end}
use Rattle.lasfile.specs.FileChecks.{records_end}

pub placed_none : (n at : ℕ) (s : Bytes) → n ≡ 0 → placed n at s ≡ []
unfolding placed
placed_none n at s h = rw h refl

-- the record at hand, and the others behind its end
pub placed_step : (n m at size : ℕ) (s rest : Bytes) → n ≡ m + 1 → size ≡ size_of 2 s → rest ≡ part size (length s) s
    → placed n at s ≡ (at, s) ∷ placed m (at + size) rest
unfolding placed
placed_step n m at size s rest h e r = rw (h, add-one, r, from_place, e) refl

-- its place is low, since few are left
pub place_low : (n at place : ℕ) (s b : Bytes) (rest : List (ℕ × Bytes)) → placed n at s ≡ (place, b) ∷ rest → at + n * 2 ^ 17 < 2 ^ 50 → place < 2 ^ 50
unfolding placed
place_low zero at place s b rest e h = absurd (search (rules, e))
place_low (suc n) at place s b rest e h = let same : at ≡ place = search (rules, e) in omega (arith, same)

pub ruleset walks = (placed_none, from_place)

pub length-placed : (n at : ℕ) (s : Bytes) → length (placed n at s) ≡ n
unfolding placed
length-placed zero at s = refl
length-placed (suc n) at s = ap suc (length-placed n (at + size_of 2 s) (drop (size_of 2 s) s))

-- ---- what they say

abbrev pub said : ℕ × Bytes → Record
said r = record_of 2 r.1

walk_placed : (n at : ℕ) (s : Bytes) → walk 2 n at s ≡ map said (placed n at (drop at s))
unfolding walk places placed
walk_placed zero at s = refl
walk_placed (suc n) at s =
    let size : ℕ = size_of 2 (drop at s) in
    rw (drop-drop size at s) (ap (λ (rs : List Record). record_of 2 (drop at s) ∷ rs) (walk_placed n (at + size) s))

pub walk_is : (s : Bytes) → walk 2 (record_count s) (header_size s) s ≡ map said (counted s)
unfolding counted
walk_is s = walk_placed (record_count s) (header_size s) s

-- ---- whether they end by a place

abbrev pub fits : ℕ → ℕ × Bytes → Bool
fits end r = leb (r.0 + size_of 2 r.1) end

abbrev pub all_fit : ℕ → List (ℕ × Bytes) → Bool
all_fit end rs = list_all (fits end) rs

-- a place and a later one
both : (at n end : ℕ) (b : Bool) → leb at end && (leb (at + n) end && b) ≡ leb (at + n) end && b
both at n end b = grind (arith, common_steps)

walk_fits : (n at end : ℕ) (s : Bytes) → leb (walk_end 2 n at s) end ≡ leb at end && all_fit end (placed n at (drop at s))
unfolding walk_end placed
walk_fits zero at end s = grind (arith, common_steps)
walk_fits (suc n) at end s =
    let size : ℕ = size_of 2 (drop at s) in
    walk_fits n (at + size) end s ∙ rw drop-drop (sym (both at size end _))

pub end_by : (s : Bytes) (end : ℕ) → leb (records_end s) end ≡ leb (header_size s) end && all_fit end (counted s)
unfolding records_end counted
end_by s end = walk_fits (record_count s) (header_size s) end s

pub header_past : (s : Bytes) (end : ℕ) → end < header_size s → false ≡ leb (records_end s) end
header_past s end h = sym (end_by s end ∙ grind (arith, common_steps))

module _ (end place size : ℕ) (s b : Bytes) (left rest : List (ℕ × Bytes)) (here : left ≡ (place, b) ∷ rest) (same : all_fit end left ≡ all_fit end (counted s)) (long : size ≡ size_of 2 b) where
  pub one_past : leb (place + size) end ≡ false → false ≡ leb (records_end s) end
  one_past h = sym (end_by s end ∙ rw (← same, here, ← long, h) (grind (arith, common_steps)))

  pub one_fits : leb (place + size) end ≡ true → all_fit end rest ≡ all_fit end (counted s)
  one_fits h = sym (rw (← same, here, ← long, h) refl)
