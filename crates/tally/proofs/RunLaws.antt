-- The loop over a run of records, apart from any code: one record more, from the front. Assumes nothing.
use mathlib.Core.Path.{◌≡◌, refl, sym, ◌∙◌}
use Prim.Native.Nat.{ℕ, ◌+◌, ◌-◌, ◌*◌, ◌^◌, ◌≤◌, ◌<◌}
use native.Mathlib.Omega.{arith}
use native.Mathlib.Numerals.{add-one}
use mathlib.Core.List.{foldl}
use lib.ListN.{take, drop}
use Rattle.fields.specs.Bytes.{Bytes, pieces}
use Rattle.points.proofs.raw.RunLaws.{mul_step}
use Rattle.tally.specs.declared.Tally.{Tally}
use Rattle.tally.specs.Tally.{tallied, CountsUpTo}
use Rattle.tally.proofs.CountLaws.{counts_with, counts_up}

first : (f n m len : ℕ) (t : Tally) (s : Bytes) → n ≡ m + 1 → foldl (tallied f) t (pieces n len s) ≡ foldl (tallied f) (tallied f t (take len s)) (pieces m len (drop len s))
unfolding pieces
first f n m len t s e = rw (e, add-one) refl

pub fold_none : (f n len : ℕ) (t : Tally) (s : Bytes) → n ≡ 0 → foldl (tallied f) t (pieces n len s) ≡ t
unfolding pieces
fold_none f n len t s e = rw e refl

-- the next record lies within what is left of the run, and the others behind it
pub next_within : (n i w l : ℕ) → i < n → (n - i) * w ≤ l → w ≤ l
next_within n i w l below held = omega (arith, mul_step (n - i) w (omega arith))

pub rest_within : (n i w l : ℕ) → i < n → (n - i) * w ≤ l → (n - (i + 1)) * w ≤ l - w
rest_within n i w l below held =
    let e : n - i - 1 ≡ n - (i + 1) = omega arith in
    omega (arith, rw e at (mul_step (n - i) w (omega arith)))

-- a turn of the loop: one record less to count, and each count higher by one at most
pub turned : (f n i w : ℕ) (t t' all : Tally) (s rest : Bytes) → i < n → t' ≡ tallied f t (take w s) → rest ≡ drop w s
    → foldl (tallied f) t (pieces (n - i) w s) ≡ all → foldl (tallied f) t' (pieces (n - (i + 1)) w rest) ≡ all
turned f n i w t t' all s rest below e r same =
    let m : n - i ≡ (n - (i + 1)) + 1 = omega arith in
    rw (e, r) (sym (first f (n - i) (n - (i + 1)) w t s m) ∙ same)

pub counts_turned : (f i : ℕ) (t t' : Tally) (p : Bytes) → t' ≡ tallied f t p → CountsUpTo t (2 ^ 32 + i) → CountsUpTo t' (2 ^ 32 + (i + 1))
counts_turned f i t t' p e u = rw e (counts_with f t p (2 ^ 32 + i) (2 ^ 32 + (i + 1)) u (omega arith))

pub ruleset running = (fold_none, counts_up, next_within, rest_within)
