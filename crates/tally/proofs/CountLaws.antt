-- Laws of a tally's counts: what one point adds to a bin, and how far the counts can have come.
-- Assumes nothing.
use mathlib.Core.Path.{◌≡◌, refl, sym, ◌∙◌}
use Prim.Native.Nat.{ℕ, ◌+◌, ◌^◌, ◌≤◌, ◌<◌}
use native.Mathlib.Omega.{arith}
use mathlib.Core.Bool.{Bool, true, false, cond}
use mathlib.Core.List.{List, [], ◌∷◌, ◌++◌, foldl, foldl-append}
use lib.ListN.{length}
use lib.Dec.{eqb}
use borrow.Author.Tests.{leb-true, le-leb}
use Rattle.fields.specs.Bytes.{Bytes}
use Rattle.points.specs.Raw.{return_of}
use Rattle.points.proofs.FieldLaws.{flag_le}
use Rattle.points.proofs.raw.RunLaws.{both}
use Rattle.tally.specs.declared.Bins.{Bins}
use Rattle.tally.specs.declared.Tally.{Tally}
use Rattle.tally.specs.Bins.{one_in, bins_with, BinsUpTo, bins_fit}
use Rattle.tally.specs.Tally.{no_tally, tally_with, tallied, tally_of, tally_more, counts_fit, CountsUpTo}

bins_with_lem : (b one : Bins) (n m : ℕ) → BinsUpTo b n → BinsUpTo one 1 → n + 1 ≤ m → BinsUpTo (bins_with b one) m
unfolding bins_with
bins_with_lem b one n m u v h =
    record {
      first = omega (arith, u.first, v.first);
      second = omega (arith, u.second, v.second);
      third = omega (arith, u.third, v.third);
      fourth = omega (arith, u.fourth, v.fourth);
      fifth = omega (arith, u.fifth, v.fifth);
    }

-- one point adds at most 1 to each
pub one_few : (n : ℕ) → BinsUpTo (one_in n) 1
unfolding one_in
one_few n = record { first = flag_le (eqb n 1); second = flag_le (eqb n 2); third = flag_le (eqb n 3); fourth = flag_le (eqb n 4); fifth = flag_le (eqb n 5) }

-- one point more
pub counts_with : (f : ℕ) (t : Tally) (p : Bytes) (n m : ℕ) → CountsUpTo t n → n + 1 ≤ m → CountsUpTo (tallied f t p) m
unfolding tallied tally_with
counts_with f t p n m u h =
    record { total = omega (arith, u.total); each = bins_with_lem t.bins (one_in (return_of f p)) n m u.each (one_few (return_of f p)) h }

-- a bound further up
pub counts_up : (t : Tally) (n m : ℕ) → CountsUpTo t n → n ≤ m → CountsUpTo t m
counts_up t n m u h =
    let e = u.each in
    record {
      total = omega (arith, u.total);
      each =
          record {
            first = omega (arith, e.first);
            second = omega (arith, e.second);
            third = omega (arith, e.third);
            fourth = omega (arith, e.fourth);
            fifth = omega (arith, e.fifth);
          };
    }

pub counts_none : (n : ℕ) → CountsUpTo no_tally n
unfolding no_tally
counts_none n =
    record {
      total = omega arith;
      each = record { first = omega arith; second = omega arith; third = omega arith; fourth = omega arith; fifth = omega arith };
    }

-- ---- counts that 4 bytes hold

pub fitting : (t : Tally) → counts_fit t ≡ true → CountsUpTo t 4294967295
unfolding counts_fit bins_fit
fitting t e =
    let all = both _ _ e in
    let to_fifth = both _ _ all.1 in
    let to_fourth = both _ _ to_fifth.0 in
    let to_third = both _ _ to_fourth.0 in
    let to_second = both _ _ to_third.0 in
    record {
      total = leb-true _ _ all.0;
      each =
          record {
            first = leb-true _ _ to_second.0;
            second = leb-true _ _ to_second.1;
            third = leb-true _ _ to_third.1;
            fourth = leb-true _ _ to_fourth.1;
            fifth = leb-true _ _ to_fifth.1;
          };
    }

pub fit : (t : Tally) → CountsUpTo t 4294967295 → counts_fit t ≡ true
unfolding counts_fit bins_fit
fit t u =
    let e = u.each in
    rw (
      le-leb t.count 4294967295 u.total,
      le-leb t.bins.first 4294967295 e.first,
      le-leb t.bins.second 4294967295 e.second,
      le-leb t.bins.third 4294967295 e.third,
      le-leb t.bins.fourth 4294967295 e.fourth,
      le-leb t.bins.fifth 4294967295 e.fifth,
    )

counts_from : (f n : ℕ) (t : Tally) (ps : List Bytes) → CountsUpTo t n → CountsUpTo (foldl (tallied f) t ps) (n + length ps)
counts_from f n t [] c = counts_up t n (n + 0) c (omega arith)
counts_from f n t (p ∷ ps) c =
    let e : n + 1 + length ps ≡ n + length (p ∷ ps) = omega arith in
    rw e at (counts_from f (n + 1) (tallied f t p) ps (counts_with f t p n (n + 1) c (omega arith)))

-- no count of a tally is above the number of its points
pub counts_few : (f m : ℕ) (ps : List Bytes) → length ps ≤ m → CountsUpTo (tally_of f ps) m
unfolding tally_of
counts_few f m ps h = counts_up (foldl (tallied f) no_tally ps) (0 + length ps) m (counts_from f 0 no_tally ps (counts_none 0)) (omega arith)

-- ---- more points

pub more_fits : (f : ℕ) (t : Tally) (ps : List Bytes) → counts_fit t ≡ true → tally_more f t ps ≡ foldl (tallied f) t ps
unfolding tally_more
more_fits f t ps e = rw e

pub more_none : (f : ℕ) (t : Tally) → tally_more f t [] ≡ t
unfolding tally_more
more_none f t = both_same (counts_fit t) t
  where
    both_same : (b : Bool) (t : Tally) → cond b t t ≡ t
    both_same true t = refl
    both_same false t = refl

pub more_over : (f : ℕ) (t : Tally) (ps : List Bytes) → counts_fit t ≡ false → tally_more f t ps ≡ t
unfolding tally_more
more_over f t ps e = rw e

-- a tally of points goes on with those that follow them
pub more_of : (f : ℕ) (ps qs : List Bytes) → length ps < 2 ^ 32 → tally_more f (tally_of f ps) qs ≡ tally_of f (ps ++ qs)
more_of f ps qs h =
    more_fits f (tally_of f ps) qs (fit (tally_of f ps) (counts_few f 4294967295 ps (omega arith)))
    ∙ unfold tally_of in sym (foldl-append (tallied f) no_tally ps qs)
