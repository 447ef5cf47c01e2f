-- Laws of records by their places: how many they are, and one place more.
-- Assumes nothing.
use mathlib.Core.Path.{◌≡◌, refl, ap}
use Prim.Native.Nat.{ℕ, zero, suc, ◌+◌, ◌≤◌, ◌<◌}
use native.Mathlib.Omega.{arith}
use mathlib.Core.Bool.{Bool, true, false}
use mathlib.Core.List.{List, [], ◌∷◌, ◌++◌}
use lib.ListN.{length, take, get_or}
use lib.Seq.{length-take-le}
use Rattle.fields.specs.Lists.{cons_if}
use Rattle.fields.specs.Bytes.{Bytes, part}
use Rattle.release.specs.KeptPoints.{picked, Places}

pub length-picked : (w : ℕ) (run : Bytes) (ps : List ℕ) → length (picked w run ps) ≡ length ps
unfolding picked
length-picked w run [] = refl
length-picked w run (x ∷ xs) = rw (length-picked w run xs)

pub picked_one : (w : ℕ) (run : Bytes) (ps : List ℕ) (b : Bool) (a : ℕ) → picked w run (ps ++ cons_if b a []) ≡ picked w run ps ++ cons_if b (part a w run) []
unfolding picked cons_if
picked_one w run [] true a = refl
picked_one w run [] false a = refl
picked_one w run (x ∷ xs) b a = ap (λ (r : List Bytes). part x w run ∷ r) (picked_one w run xs b a)

pub picked_more : (w : ℕ) (run : Bytes) (ps : List ℕ) (a : ℕ) → picked w run (ps ++ (a ∷ [])) ≡ picked w run ps ++ (part a w run ∷ [])
unfolding cons_if
picked_more w run ps a = picked_one w run ps true a

-- a place among the first k has a record
pub place_at : (w : ℕ) (run : Bytes) (k j : ℕ) (l : List ℕ) → k ≤ length l → j < k → Places w run (take k l) → get_or l j 0 + w ≤ length run
place_at w run zero j l h less places = absurd (omega arith)
place_at w run (suc k) j [] h less places = absurd (omega arith)
place_at w run (suc k) zero (x ∷ xs) h less places = places.0
place_at w run (suc k) (suc j) (x ∷ xs) h less places = place_at w run k j xs (omega arith) (omega arith) places.1

-- as many were chosen as are kept
pub chosen_count : (w : ℕ) (run : Bytes) (chosen : List ℕ) (k : ℕ) (ks : List Bytes) → k ≤ length chosen → picked w run (take k chosen) ≡ ks → k ≡ length ks
chosen_count w run chosen k ks h e = rw (← e, length-picked, length-take-le k chosen h)
