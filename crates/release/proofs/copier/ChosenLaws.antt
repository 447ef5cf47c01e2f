-- The loop that copies the chosen records of a block, apart from any code: what holds at the start, and after a
-- turn.
-- Assumes nothing.
use mathlib.Core.Path.{◌≡◌, refl, ap}
use Prim.Native.Nat.{ℕ, zero, suc, ◌+◌, ◌-◌, ◌*◌, ◌≤◌, ◌<◌}
use native.Mathlib.Omega.{arith}
use mathlib.Core.List.{List, [], ◌∷◌, ◌++◌, append-nil}
use lib.ListN.{length, take, get_or, length-append}
use lib.Seq.{sets, length-sets}
use Rattle.fields.specs.Bytes.{Bytes, part, join}
use Rattle.fields.proofs.ByteLaws.{length_part, join-append}
use Rattle.fields.proofs.StoreLaws.{sets-append}
use Rattle.points.proofs.raw.RunLaws.{mul_step}
use Rattle.release.specs.KeptPoints.{picked, Places}
use Rattle.release.proofs.kept_points.PickedLaws.{picked_more}

take_more : (j : ℕ) (l : List ℕ) → j < length l → take (j + 1) l ≡ take j l ++ (get_or l j 0 ∷ [])
take_more j [] h = absurd (omega arith)
take_more zero (x ∷ xs) h = refl
take_more (suc j) (x ∷ xs) h =
    let e : suc j + 1 ≡ suc (j + 1) = omega arith in
    rw e (ap (λ (r : List ℕ). x ∷ r) (take_more j xs (omega arith)))

join_more : (ps : List Bytes) (p : Bytes) → join (ps ++ (p ∷ [])) ≡ join ps ++ p
unfolding join
join_more ps p = rw (join-append, append-nil)

-- each of the places has a record
pub place_of : (w : ℕ) (run : Bytes) (l : List ℕ) (j : ℕ) → j < length l → Places w run l → get_or l j 0 + w ≤ length run
place_of w run [] j less places = absurd (omega arith)
place_of w run (x ∷ xs) zero less places = places.0
place_of w run (x ∷ xs) (suc j) less places = place_of w run xs j (omega arith) places.1

-- the records at the first j places stand at the front of the output, and nothing else has changed there
pub record Pasted (w : ℕ) (run : Bytes) (chosen : List ℕ) (out₀ out : Bytes) (to j : ℕ) : Type 0 where
  pub same : length out ≡ length out₀
  pub long : length (join (picked w run (take j chosen))) ≡ to
  pub place : to + (length chosen - j) * w ≤ length out₀
  pub is : out ≡ sets out₀ 0 (join (picked w run (take j chosen)))

module _ (w : ℕ) (run : Bytes) (chosen : List ℕ) (out₀ : Bytes) where
  pub paste_begun : length chosen * w ≤ length out₀ → Pasted w run chosen out₀ out₀ 0 0
  unfolding picked join
  paste_begun h = let e : length chosen - 0 ≡ length chosen = omega arith in record { same = refl; long = refl; place = rw e (omega arith); is = refl }

  module _ (out : Bytes) (to j : ℕ) (c : Pasted w run chosen out₀ out to j) (less : j < length chosen) (places : Places w run chosen) where
    pub room : to + w + (length chosen - (j + 1)) * w ≤ length out₀
    room =
        let e : length chosen - j - 1 ≡ length chosen - (j + 1) = omega arith in
        omega (arith, c.place, rw e at (mul_step (length chosen - j) w (omega arith)))

    pub paste_turned : (out' : Bytes) → out' ≡ sets out to (part (get_or chosen j 0) w run) → Pasted w run chosen out₀ out' (to + w) (j + 1)
    paste_turned out' g =
        let from = get_or chosen j 0 in
        let more = take_more j chosen less in
        let wide : length (part from w run) ≡ w = length_part from w run (place_of w run chosen j less places) in
        let before = join (picked w run (take j chosen)) in
        let zeroth : 0 + to ≡ to = omega arith in
        let all : join (picked w run (take (j + 1) chosen)) ≡ before ++ part from w run = rw (more, picked_more, join_more) in
        record {
          same = rw (g, length-sets) c.same;
          long = rw (all, length-append, wide, c.long);
          place = room;
          is = rw (all, sets-append, c.long, ← c.is, zeroth) g;
        }
