-- Laws of the tally, over any list of points: its count is theirs, and its bins are those that the released header has
-- of them. Assumes nothing.
use mathlib.Core.Path.{◌≡◌, refl, ◌∙◌}
use Prim.Native.Nat.{ℕ, ◌+◌, ◌≤◌}
use native.Mathlib.Omega.{arith}
use mathlib.Core.List.{List, [], ◌∷◌, foldl}
use lib.ListN.{length, take}
use lib.Dec.{eqb}
use mir.Val.{bool_byte}
use Rattle.fields.specs.Lists.{kept}
use Rattle.fields.specs.Bytes.{Bytes}
use Rattle.publicpart.specs.Bounds.{bins}
use Rattle.points.specs.Raw.{return_of, stored_of}
use Rattle.points.proofs.raw.RawLaws.{return_front, stored_of_front}
use Rattle.publicpart.proofs.BinLaws.{length-cons_if, with_return, bins_listed}
use Rattle.points.specs.declared.raw.Stored.{Stored}
use Rattle.tally.specs.declared.Tally.{Tally}
use Rattle.tally.specs.declared.Bins.{Bins}
use Rattle.tally.specs.Bins.{one_in, bins_with, bin_numbers}
use Rattle.tally.specs.Tally.{no_tally, tally_with, tallied, tally_of}

-- ---- one point

-- what a tally becomes by what a return number n adds and by coordinates q is what it becomes by a point that has them
pub tallied_by : (f : ℕ) (t t' : Tally) (n : ℕ) (one : Bins) (q : Stored) (p : Bytes) → t' ≡ tally_with t one q → one ≡ one_in n → n ≡ return_of f p → q ≡ stored_of p
    → t' ≡ tallied f t p
unfolding tallied
tallied_by f t t' n one q p e o g h = e ∙ rw (o, g, h)

-- the first 20 bytes decide
pub tallied_front : (f n : ℕ) (t : Tally) (p : Bytes) → 20 ≤ n → tallied f t (take n p) ≡ tallied f t p
unfolding tallied
tallied_front f n t p h = rw (return_front f n p h, stored_of_front n p h)

-- ---- the count

count_from : (f : ℕ) (t : Tally) (ps : List Bytes) → (foldl (tallied f) t ps).count ≡ t.count + length ps
unfolding tallied tally_with
count_from f t [] = omega arith
count_from f t (p ∷ ps) = omega (arith, count_from f (tallied f t p) ps)

pub tally_count : (f : ℕ) (ps : List Bytes) → (tally_of f ps).count ≡ length ps
unfolding tally_of no_tally
tally_count f ps = omega (arith, count_from f no_tally ps)

-- ---- the bins

-- a count of the tally that goes up by one at each point of return number r
module _ (f r : ℕ) (bin : Tally → ℕ) (step : (t : Tally) (p : Bytes) → bin (tallied f t p) ≡ bin t + bool_byte (eqb (return_of f p) r)) where
  bin_from : (t : Tally) (ps : List Bytes) → bin (foldl (tallied f) t ps) ≡ bin t + with_return f ps r
  unfolding kept
  bin_from t [] = omega arith
  bin_from t (p ∷ ps) = omega (arith, bin_from (tallied f t p) ps, step t p, length-cons_if (eqb (return_of f p) r) p (kept (λ p. eqb (return_of f p) r) ps))

  bin_of : bin no_tally ≡ 0 → (ps : List Bytes) → bin (tally_of f ps) ≡ with_return f ps r
  unfolding tally_of
  bin_of e ps = omega (arith, bin_from no_tally ps)

pub tally_bins : (f : ℕ) (ps : List Bytes) → bin_numbers (tally_of f ps).bins ≡ bins 5 f ps
unfolding bin_numbers no_tally tallied tally_with bins_with one_in
tally_bins f ps =
    rw (
      bins_listed f ps,
      bin_of f 1 (λ t. t.bins.first) (λ t p. refl) refl ps,
      bin_of f 2 (λ t. t.bins.second) (λ t p. refl) refl ps,
      bin_of f 3 (λ t. t.bins.third) (λ t p. refl) refl ps,
      bin_of f 4 (λ t. t.bins.fourth) (λ t p. refl) refl ps,
      bin_of f 5 (λ t. t.bins.fifth) (λ t p. refl) refl ps,
    )
