-- A table gives a number exactly where that number's check fails and none before it does.
-- Assumes nothing.
use mathlib.Core.Path.{◌≡◌, refl, sym, ap, ◌∙◌, subst}
use Prim.Native.Nat.{ℕ, suc, ◌≤◌, ◌<◌}
use native.Mathlib.Omega.{arith}
use mathlib.Core.Bool.{Bool, true, false, not}
use mathlib.Core.List.{List, [], ◌∷◌, ◌++◌}
use lib.Dec.{T, eqb}
use borrow.Author.Tests.{ne_eqb}
use Rattle.fields.specs.Checks.{Test, Clear, Check, fails, fail_if, first_failing, then, number_of, Verdict, Passes, Fails}
use Rattle.fields.proofs.CheckLaws.{clear, unclear, none_fails, all_clear, gives, Numbers, both_numbers, Without}
use Rattle.theorems.specs.Tables.{Given, ByTable}
use Rattle.theorems.specs.Demand1.{TableLaws}
use Rattle.theorems.specs.ZeroWhereAccepted.{is_passing, is_zero}
use Rattle.theorems.proofs.capi.NumberLaws.{Numbered, first_numbered}

-- ---- two tables, one behind the other

fail_then : (b : Bool) (n : ℕ) (v w : Verdict) → fail_if b n (then v w) ≡ then (fail_if b n v) w
unfolding then fail_if
fail_then true n v w = refl
fail_then false n v w = refl

pub joined : (cs ds : List Check) → first_failing (cs ++ ds) ≡ then (first_failing cs) (first_failing ds)
unfolding first_failing then
joined [] ds = refl
joined (c ∷ cs) ds =
    ap (fail_if (fails c.1) c.0) (joined cs ds) ∙ fail_then (fails c.1) c.0 (first_failing cs) (first_failing ds)

pub without_both : (n : ℕ) (cs ds : List Check) → Without n cs → Without n ds → Without n (cs ++ ds)
unfolding Without
without_both n cs ds h k = both_numbers (λ m. eqb m n ≡ false) cs ds h k

-- ---- the number that is given

-- what is clear does not fail
not_clear : (t : Test) → fails t ≡ true → Clear t → ⊥
not_clear t e h = subst (λ (b : Bool). T (not b)) e (unclear t h)

-- by the first check, and the rest where it is clear
given_first : (b : Bool) (c : Check) (cs : List Check) (n : ℕ) → (first_failing cs ≡ Fails n → Given cs n)
    → fails c.1 ≡ b → fail_if b c.0 (first_failing cs) ≡ Fails n → Given (c ∷ cs) n
unfolding fail_if
given_first true c cs n later f e =
    let same : c.0 ≡ n = cc in
    record {
      before = [];
      test = c.1;
      after = cs;
      table = λ i. (same i, c.1) ∷ cs;
      earlier = tt;
      own = not_clear c.1 f;
    }
given_first false c cs n later f e =
    let g : Given cs n = later e in
    record {
      before = c ∷ g.before;
      test = g.test;
      after = g.after;
      table = λ i. c ∷ g.table i;
      earlier = (clear c.1 (subst (λ (b : Bool). T (not b)) (sym f) tt), g.earlier);
      own = g.own;
    }

given_by : (cs : List Check) (n : ℕ) → first_failing cs ≡ Fails n → Given cs n
unfolding first_failing
given_by [] n e = let z : ◌≡◌ {A = ℕ} 0 1 = cc in absurd (omega arith)
given_by (c ∷ cs) n e = given_first (fails c.1) c cs n (given_by cs n) refl e

fails_unclear : (t : Test) → (Clear t → ⊥) → T (fails t)
fails_unclear t h = decide (fails t) refl
  where
    decide : (b : Bool) → fails t ≡ b → T b
    decide true e = tt
    decide false e = h (clear t (subst (λ (b : Bool). T (not b)) (sym e) tt))

gives_it : (cs : List Check) (n : ℕ) → Given cs n → first_failing cs ≡ Fails n
unfolding then
gives_it cs n g =
    ap first_failing g.table
    ∙ joined g.before ((n, g.test) ∷ g.after)
    ∙ rw (all_clear g.before g.earlier, gives n g.test g.after (fails_unclear g.test g.own))

pub table_laws : TableLaws
table_laws =
    record {
      given = λ cs n. (given_by cs n, gives_it cs n);
      passes = λ cs. (none_fails cs, all_clear cs);
    }

-- ---- the numbers of a table

-- where all are from k on, none is 0
pub none_zero : (k : ℕ) (cs : List Check) → 0 < k → Numbers (λ n. k ≤ n) cs → Without 0 cs
unfolding Without
none_zero k [] low h = tt
none_zero k (c ∷ cs) low h = (ne_eqb c.0 0 (λ e. omega (arith, e, h.0, low)), none_zero k cs low h.1)

-- ---- a function's number

pub fails_with : (v : Verdict) (n : ℕ) → number_of v ≡ suc n → v ≡ Fails (suc n)
unfolding number_of
fails_with Passes n e = absurd (omega arith)
fails_with (Fails m) n e = ap Fails e

passes_with : (v : Verdict) → Numbered v → number_of v ≡ 0 → v ≡ Passes
unfolding Numbered number_of is_passing is_zero
passes_with Passes h e = refl
passes_with (Fails n) h e = let z : true ≡ false = rw e at h in let y : ◌≡◌ {A = ℕ} 0 1 = cc in absurd (omega arith)

pub follows : (number : ℕ) (cs : List Check) → Without 0 cs → number ≡ number_of (first_failing cs) → ByTable number cs
unfolding number_of
follows number cs above e =
    record {
      refuses =
          λ n. (
            λ f. given_by cs (suc n) (fails_with (first_failing cs) n (sym e ∙ f)),
            λ g. e ∙ ap number_of (gives_it cs (suc n) g),
          );
      accepts = (
        λ f. none_fails cs (passes_with (first_failing cs) (first_numbered cs above) (sym e ∙ f)),
        λ h. e ∙ ap number_of (all_clear cs h),
      );
    }
