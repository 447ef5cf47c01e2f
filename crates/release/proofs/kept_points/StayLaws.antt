-- The loop that leaves some of the chosen places, apart from any code: what holds at the start, after a turn, and at
-- the end.
-- Assumes nothing.
use mathlib.Core.Path.{◌≡◌, refl, sym, ap, ◌∙◌}
use Prim.Native.Nat.{ℕ, suc, ◌+◌, ◌≤◌, ◌<◌}
use native.Mathlib.Omega.{arith}
use mathlib.Core.Bool.{Bool}
use mathlib.Core.List.{List, [], ◌++◌}
use lib.ListN.{length, take, drop, get_or, set, length-set}
use lib.Seq.{take-suc, drop-drop, drop-set-lt, get_or-drop}
use mir.Val.{bool_byte}
use Rattle.fields.specs.Lists.{kept, cons_if}
use Rattle.fields.specs.Bytes.{Bytes, part}
use Rattle.fields.proofs.ListLaws.{kept_append}
use Rattle.release.specs.KeptPoints.{picked, Places}
use Rattle.release.proofs.kept_points.PickedLaws.{picked_one, picked_more, place_at}
use Rattle.release.proofs.kept_points.LoopLaws.{one_is, step_le, take_put}
use Rattle.release.proofs.kept_points.ChooseLaws.{places_one}

-- the first j places were looked at, and the first m are those of them that stay; the others are as they were
pub record Staying (keep : Bytes → Bool) (w : ℕ) (run : Bytes) (chosen₀ chosen : List ℕ) (m j : ℕ) : Type 0 where
  pub same : picked w run (take m chosen) ≡ kept keep (picked w run (take j chosen₀))
  pub places : Places w run (take m chosen)
  pub rest : drop j chosen ≡ drop j chosen₀
  pub few : m ≤ j
  pub size : length chosen ≡ 64

module _ (keep : Bytes → Bool) (w : ℕ) (run : Bytes) (chosen₀ : List ℕ) where
  pub stay_begun : length chosen₀ ≡ 64 → Staying keep w run chosen₀ chosen₀ 0 0
  unfolding picked kept
  stay_begun h = record { same = refl; places = tt; rest = refl; few = omega arith; size = h }

  module _ (k : ℕ) (small : k ≤ 64) (long : length chosen₀ ≡ 64) (all : Places w run (take k chosen₀)) (chosen : List ℕ) (m j : ℕ)
      (c : Staying keep w run chosen₀ chosen m j) (less : j < k) where
    -- the place at hand
    abbrev at : ℕ
    at = get_or chosen j 0

    at_is : at ≡ get_or chosen₀ j 0
    at_is =
        let here : (l : List ℕ) → get_or (drop j l) 0 0 ≡ get_or l j 0 = λ l. get_or-drop j l 0 0 ∙ ap (λ (i : ℕ). get_or l i 0) (let e : j + 0 ≡ j = omega arith in e) in
        sym (here chosen) ∙ ap (λ (l : List ℕ). get_or l 0 0) c.rest ∙ here chosen₀

    -- it has a record
    pub stay_in : at + w ≤ length run
    stay_in = rw at_is (place_at w run k j chosen₀ (omega (arith, long)) less all)

    one_more : kept keep (picked w run (take (j + 1) chosen₀)) ≡ kept keep (picked w run (take j chosen₀)) ++ cons_if (keep (part at w run)) (part at w run) []
    unfolding kept
    one_more =
        let e : j + 1 ≡ suc j = omega arith in
        rw (e, take-suc chosen₀ j 0 (omega (arith, long)), picked_more, kept_append, at_is)

    pub stay_next : (b : Bool) → b ≡ keep (part at w run) → Staying keep w run chosen₀ (set chosen m at) (m + bool_byte b) (j + 1)
    stay_next b e =
        let put = take_put m chosen at b (omega (arith, c.few, c.size)) in
        rw (one_is b) record {
          same = rw (put, picked_one, c.same, e) (sym one_more);
          places = rw put (places_one w run (take m chosen) b at c.places stay_in);
          rest = drop-set-lt (j + 1) chosen m at (omega (arith, c.few)) ∙ sym (drop-drop 1 j chosen) ∙ ap (drop 1) c.rest ∙ drop-drop 1 j chosen₀;
          few = omega (arith, c.few, step_le b 1);
          size = rw length-set c.size;
        }
