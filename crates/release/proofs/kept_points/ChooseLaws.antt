-- The loop that chooses the kept records of a block by their places, apart from any code: what holds at the start, and
-- after a turn.
-- Assumes nothing.
use mathlib.Core.Path.{◌≡◌, refl}
use Prim.Native.Nat.{ℕ, ◌+◌, ◌*◌, ◌≤◌, ◌<◌}
use native.Mathlib.Omega.{arith}
use mathlib.Core.Bool.{Bool, true, false}
use mathlib.Core.List.{List, [], ◌∷◌, ◌++◌}
use lib.ListN.{length, take, set, length-set}
use mir.Val.{bool_byte}
use Rattle.fields.specs.Lists.{kept, cons_if}
use Rattle.fields.specs.Bytes.{Bytes, part, pieces}
use Rattle.release.specs.KeptPoints.{picked, Places}
use Rattle.release.proofs.kept_points.PickedLaws.{picked_one}
use Rattle.release.proofs.kept_points.LoopLaws.{one_is, step_le, take_put, kept_next}

pub places_one : (w : ℕ) (run : Bytes) (ps : List ℕ) (b : Bool) (a : ℕ) → Places w run ps → a + w ≤ length run → Places w run (ps ++ cons_if b a [])
unfolding cons_if
places_one w run [] true a h e = (e, tt)
places_one w run [] false a h e = tt
places_one w run (x ∷ xs) b a h e = (h.0, places_one w run xs b a h.1 e)

-- the first k places are those of the kept ones among the first i records
pub record Choosing (keep : Bytes → Bool) (w : ℕ) (run : Bytes) (chosen : List ℕ) (k i : ℕ) : Type 0 where
  pub same : picked w run (take k chosen) ≡ kept keep (pieces i w run)
  pub places : Places w run (take k chosen)
  pub few : k ≤ i
  pub size : length chosen ≡ 64

module _ (keep : Bytes → Bool) (w : ℕ) (run : Bytes) where
  pub choose_begun : (chosen : List ℕ) → length chosen ≡ 64 → Choosing keep w run chosen 0 0
  unfolding picked kept pieces
  choose_begun chosen h = record { same = refl; places = tt; few = omega arith; size = h }

  pub choose_next : (chosen : List ℕ) (k i : ℕ) → i < 64 → i * w + w ≤ length run → Choosing keep w run chosen k i
      → (b : Bool) → b ≡ keep (part (i * w) w run) → Choosing keep w run (set chosen k (i * w)) (k + bool_byte b) (i + 1)
  choose_next chosen k i small fits c b e =
      let put = take_put k chosen (i * w) b (omega (arith, c.few, c.size)) in
      rw (one_is b) record {
        same = rw (put, picked_one, c.same, kept_next keep i w run, e);
        places = rw put (places_one w run (take k chosen) b (i * w) c.places fits);
        few = omega (arith, c.few, step_le b 1);
        size = rw length-set c.size;
      }
