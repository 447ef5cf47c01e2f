-- A loop over the records of a run, apart from any code: where a record lies, and what one record more comes to.
-- Assumes nothing.
use mathlib.Core.Path.{◌≡◌, refl, ap, ◌∙◌}
use Prim.Native.Nat.{ℕ, zero, suc, ◌+◌, ◌*◌, ◌≤◌, ◌<◌}
use native.Mathlib.Omega.{arith}
use native.Mathlib.Nat.{mul-le-mul_right, add-mul}
use mathlib.Core.Bool.{Bool, true, false, cond}
use mathlib.Core.List.{List, [], ◌∷◌, ◌++◌}
use lib.ListN.{length, take, set, length-append}
use mir.Val.{bool_byte}
use Rattle.fields.specs.Lists.{kept, cons_if}
use Rattle.fields.specs.Bytes.{Bytes, part, pieces}
use Rattle.fields.proofs.ByteLaws.{pieces_split}
use Rattle.fields.proofs.ListLaws.{kept_append}

-- ---- one thing more, which is kept or not

-- as the code counts it
pub one_is : (b : Bool) → bool_byte b ≡ cond b 1 0
one_is true = refl
one_is false = refl

pub step_le : (b : Bool) (n : ℕ) → cond b n 0 ≤ n
step_le true n = omega arith
step_le false n = omega arith

module _ {A : Type 0} where
  -- put behind the first k, and counted or not
  pub take_put : (k : ℕ) (l : List A) (v : A) (b : Bool) → k < length l → take (k + cond b 1 0) (set l k v) ≡ take k l ++ cons_if b v []
  unfolding cons_if
  take_put k [] v b h = absurd (omega arith)
  take_put zero (x ∷ xs) v true h = refl
  take_put zero (x ∷ xs) v false h = refl
  take_put (suc k) (x ∷ xs) v b h =
      let e : suc k + cond b 1 0 ≡ suc (k + cond b 1 0) = omega arith in
      rw e (ap (λ (r : List A). x ∷ r) (take_put k xs v b (omega arith)))

-- ---- record i of a run

-- it lies in the run
pub record_fits : (i count w size : ℕ) → i < count → count * w ≤ size → i * w + w ≤ size
record_fits i count w size less held =
    let most : (i + 1) * w ≤ count * w = mul-le-mul_right w (omega arith) in
    let e : (i + 1) * w ≡ i * w + 1 * w = add-mul i 1 w in
    omega (arith, most, e, held)

-- the first i records, and one more
pieces_next : (i w : ℕ) (run : Bytes) → pieces (i + 1) w run ≡ pieces i w run ++ (part (i * w) w run ∷ [])
unfolding pieces part
pieces_next i w run = pieces_split i 1 w run

-- and the kept ones of them
pub kept_next : (keep : Bytes → Bool) (i w : ℕ) (run : Bytes)
    → kept keep (pieces (i + 1) w run) ≡ kept keep (pieces i w run) ++ cons_if (keep (part (i * w) w run)) (part (i * w) w run) []
unfolding kept
kept_next keep i w run = ap (kept keep) (pieces_next i w run) ∙ kept_append keep (pieces i w run) (part (i * w) w run ∷ [])

length_one : (b : Bool) (p : Bytes) → length (cons_if b p []) ≡ cond b 1 0
unfolding cons_if
length_one true p = refl
length_one false p = refl

-- counted
pub count_next : (keep : Bytes → Bool) (i w : ℕ) (run : Bytes) (n : ℕ) (b : Bool) → n ≡ length (kept keep (pieces i w run)) → b ≡ keep (part (i * w) w run)
    → n + bool_byte b ≡ length (kept keep (pieces (i + 1) w run))
count_next keep i w run n b e f = rw (kept_next keep i w run, length-append, length_one, e, f, one_is)

pub count_le : (n i : ℕ) (b : Bool) → n ≤ i → n + bool_byte b ≤ i + 1
count_le n i b h = omega (arith, one_is b, step_le b 1)
