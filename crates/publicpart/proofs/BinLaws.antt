-- Laws of the counts by return number: each bin by its return number, and the bins add up to no more than the points.
-- Assumes nothing.
use mathlib.Core.Path.{◌≡◌, refl, ap, ◌∙◌}
use Prim.Native.Nat.{ℕ, zero, suc, ◌+◌, ◌≤◌, ◌<◌}
use native.Mathlib.Nat.{not-suc-le-zero}
use native.Mathlib.Omega.{arith}
use borrow.Author.Tests.{eqb-true, ne_eqb}
use mathlib.Core.Bool.{Bool, true, false}
use mathlib.Core.List.{List, [], ◌∷◌, map}
use lib.Dec.{eqb}
use lib.ListN.{length, get_or}
use mir.Val.{bool_byte}
use Rattle.fields.specs.Lists.{kept, cons_if, total}
use Rattle.fields.specs.Bytes.{Bytes}
use Rattle.publicpart.specs.Bounds.{up_from, bins}
use Rattle.points.specs.Raw.{return_of}

-- ---- a count that goes up by one where a test holds

pub length-cons_if : {A : Type 0} (b : Bool) (x : A) (xs : List A) → length (cons_if b x xs) ≡ bool_byte b + length xs
unfolding cons_if
length-cons_if true x xs = omega arith
length-cons_if false x xs = omega arith

-- ---- each bin by its return number

-- how many points of a format have return number r
abbrev pub with_return : ℕ → List Bytes → ℕ → ℕ
with_return f ps r = length (kept (λ p. eqb (return_of f p) r) ps)

counted_at : (g : ℕ → ℕ) (n from i : ℕ) → i < n → get_or (map g (up_from from n)) i 0 ≡ g (from + i)
unfolding up_from
counted_at g zero from i h = absurd (not-suc-le-zero h)
counted_at g (suc n) from zero h = ap g (omega arith)
counted_at g (suc n) from (suc i) h = counted_at g n (suc from) i (omega arith) ∙ ap g (omega arith)

-- bin i of those counted from 0 is that of return number i + 1
pub bin_at : (n f : ℕ) (ps : List Bytes) (i : ℕ) → i < n → get_or (bins n f ps) i 0 ≡ with_return f ps (1 + i)
unfolding bins
bin_at n f ps i h = counted_at (with_return f ps) n 1 i h

pub bins_listed : (f : ℕ) (ps : List Bytes)
    → bins 5 f ps ≡ with_return f ps 1 ∷ with_return f ps 2 ∷ with_return f ps 3 ∷ with_return f ps 4 ∷ with_return f ps 5 ∷ []
unfolding bins up_from
bins_listed f ps = refl

-- ---- each point is in one bin at most

-- numbers above x
none_above : (x from n : ℕ) → x < from → total (λ r. bool_byte (eqb x r)) (up_from from n) ≡ 0
unfolding total up_from
none_above x from zero h = refl
none_above x from (suc n) h = rw (ne_eqb x from (λ e. omega arith)) (omega (arith, none_above x (suc from) n (omega arith)))

one_at_most : (x from n : ℕ) (b : Bool) → eqb x from ≡ b → total (λ r. bool_byte (eqb x r)) (up_from (suc from) n) ≤ 1
    → bool_byte b + total (λ r. bool_byte (eqb x r)) (up_from (suc from) n) ≤ 1
one_at_most x from n true e h = omega (arith, none_above x (suc from) n (omega (arith, eqb-true x from e)))
one_at_most x from n false e h = omega arith

in_one : (x from n : ℕ) → total (λ r. bool_byte (eqb x r)) (up_from from n) ≤ 1
unfolding total up_from
in_one x from zero = omega arith
in_one x from (suc n) = one_at_most x from n (eqb x from) refl (in_one x (suc from) n)

split : (f g h : ℕ → ℕ) → ((r : ℕ) → f r ≡ g r + h r) → (rs : List ℕ) → total f rs ≡ total g rs + total h rs
unfolding total
split f g h e [] = refl
split f g h e (r ∷ rs) = omega (arith, e r, split f g h e rs)

total_zero : (rs : List ℕ) → total (λ (r : ℕ). 0) rs ≡ 0
unfolding total
total_zero [] = refl
total_zero (r ∷ rs) = omega (arith, total_zero rs)

bins_total : (f from n : ℕ) (ps : List Bytes) → total (with_return f ps) (up_from from n) ≤ length ps
unfolding kept
bins_total f from n [] = omega (arith, total_zero (up_from from n))
bins_total f from n (p ∷ ps) =
    omega (
      arith,
      split (with_return f (p ∷ ps)) (λ r. bool_byte (eqb (return_of f p) r)) (with_return f ps)
          (λ r. length-cons_if (eqb (return_of f p) r) p (kept (λ q. eqb (return_of f q) r) ps)) (up_from from n),
      in_one (return_of f p) from n,
      bins_total f from n ps,
    )

pub five_bins : (f : ℕ) (ps : List Bytes) → total (with_return f ps) (1 ∷ 2 ∷ 3 ∷ 4 ∷ 5 ∷ []) ≤ length ps
unfolding up_from
five_bins f ps = bins_total f 1 5 ps
