-- Laws of checks: a table passes exactly if every test is clear, and gives the number of the first that is not.
-- Assumes nothing.
use mathlib.Core.Path.{◌≡◌, refl, sym, ap, ◌∙◌, subst}
use Prim.Native.Nat.{ℕ, zero, suc, ◌≤◌, ◌<◌}
use native.Mathlib.Omega.{arith}
use mathlib.Core.Bool.{Bool, true, false, ◌||◌, not}
use mathlib.Core.List.{List, [], ◌∷◌, ◌++◌}
use mathlib.Core.Logic.{◌⊎◌, inl, inr}
use borrow.Author.Tests.{lt-ltb}
use lib.ListN.{take, drop}
use lib.Dec.{T, eqb, ltb, ltb→lt, nltb→le, not_T}
use Rattle.fields.specs.Bytes.{Bytes, same}
use Rattle.fields.specs.Lists.{All}
use Rattle.fields.specs.Checks.{Verdict, Passes, Fails, Test, ◌below◌, ◌differs_from◌, not_so, ◌or◌, fails, Clear, Check, fail_if, first_failing, then, AllClear}
use Rattle.fields.proofs.ByteLaws.{same→eq, same_refl}

not-or : (a b : Bool) → T (not (a || b)) → T (not a) × T (not b)
not-or true b t = absurd t
not-or false b t = (tt, t)

or-not : (a b : Bool) → T (not a) → T (not b) → T (not (a || b))
or-not true b t u = absurd t
or-not false b t u = u

not-not : (b : Bool) → T (not (not b)) → T b
not-not true t = tt
not-not false t = absurd t

to_not-not : (b : Bool) → T b → T (not (not b))
to_not-not true t = tt
to_not-not false t = absurd t

-- a test does not fail exactly if it is clear
pub clear : (t : Test) → T (not (fails t)) → Clear t
unfolding fails
clear (a below b) h = nltb→le a b h
clear (x differs_from y) h = same→eq x y (not-not (same x y) h)
clear (not_so b) h = not-not b h
clear (t or u) h =
    let g : T (not (fails t)) × T (not (fails u)) = not-or (fails t) (fails u) h in
    (clear t g.0, clear u g.1)

pub unclear : (t : Test) → Clear t → T (not (fails t))
unfolding fails
unclear (a below b) h = not_T (ltb a b) (λ t. let k : suc a ≤ b = ltb→lt a b t in omega arith)
unclear (x differs_from y) h = to_not-not (same x y) (subst (λ (z : Bytes). T (same x z)) h (same_refl x))
unclear (not_so b) h = to_not-not b h
unclear (t or u) h = or-not (fails t) (fails u) (unclear t h.0) (unclear u h.1)

-- ---- a table that passes

fail_passes : (b : Bool) (n : ℕ) (v : Verdict) → fail_if b n v ≡ Passes → T (not b) × (v ≡ Passes)
unfolding fail_if
fail_passes true n v e = let z : ◌≡◌ {A = ℕ} 0 1 = cc in absurd (omega arith)
fail_passes false n v e = (tt, e)

passes_fail : (b : Bool) (n : ℕ) (v : Verdict) → T (not b) → fail_if b n v ≡ v
unfolding fail_if
passes_fail true n v t = absurd t
passes_fail false n v t = refl

pub none_fails : (cs : List Check) → first_failing cs ≡ Passes → AllClear cs
unfolding first_failing
none_fails [] e = tt
none_fails (c ∷ cs) e =
    let g : T (not (fails c.1)) × (first_failing cs ≡ Passes) = fail_passes (fails c.1) c.0 (first_failing cs) e in
    (clear c.1 g.0, none_fails cs g.1)

pub all_clear : (cs : List Check) → AllClear cs → first_failing cs ≡ Passes
unfolding first_failing
all_clear [] h = refl
all_clear (c ∷ cs) h = passes_fail (fails c.1) c.0 (first_failing cs) (unclear c.1 h.0) ∙ all_clear cs h.1

-- ---- the first check of a table: it fails, or the rest decides

fails_fail : (b : Bool) (n : ℕ) (v : Verdict) → T b → fail_if b n v ≡ Fails n
unfolding fail_if
fails_fail true n v t = refl
fails_fail false n v t = absurd t

pub gives : (n : ℕ) (t : Test) (cs : List Check) → T (fails t) → first_failing ((n, t) ∷ cs) ≡ Fails n
unfolding first_failing
gives n t cs h = fails_fail (fails t) n (first_failing cs) h

pub goes_on : (n : ℕ) (t : Test) (cs : List Check) → T (not (fails t)) → first_failing ((n, t) ∷ cs) ≡ first_failing cs
unfolding first_failing
goes_on n t cs h = passes_fail (fails t) n (first_failing cs) h

-- what is known where a test fails
abbrev pub Broken : Test → Type 0
Broken (a below b) = a < b
Broken (x differs_from y) = same x y ≡ false
Broken (not_so b) = b ≡ false
Broken (t or u) = Broken t ⊎ Broken u

or_left : (a b : Bool) → T a → T (a || b)
or_left true b t = tt
or_left false b t = absurd t

or_right : (a b : Bool) → T b → T (a || b)
or_right true b t = tt
or_right false b t = t

pub broken : (t : Test) → Broken t → T (fails t)
unfolding fails
broken (a below b) h = subst T (sym (lt-ltb a b h)) tt
broken (x differs_from y) h = rw h tt
broken (not_so b) h = rw h tt
broken (t or u) (inl h) = or_left (fails t) (fails u) (broken t h)
broken (t or u) (inr h) = or_right (fails t) (fails u) (broken u h)

pub first_fails : (n : ℕ) (t : Test) (cs : List Check) → Broken t → first_failing ((n, t) ∷ cs) ≡ Fails n
first_fails n t cs h = gives n t cs (broken t h)

pub first_clear : (n : ℕ) (t : Test) (cs : List Check) → Clear t → first_failing ((n, t) ∷ cs) ≡ first_failing cs
first_clear n t cs h = goes_on n t cs (unclear t h)

-- ---- a table in two parts

pub then_passes : (v w : Verdict) → v ≡ Passes → then v w ≡ w
unfolding then
then_passes v w e = rw e

pub then_first : (v w : Verdict) → then v w ≡ Passes → v ≡ Passes
unfolding then
then_first Passes w e = refl
then_first (Fails n) w e = e

pub then_passed : (v w : Verdict) → then v w ≡ Passes → w ≡ Passes
unfolding then
then_passed Passes w e = e
then_passed (Fails n) w e = let z : ◌≡◌ {A = ℕ} 0 1 = cc in absurd (omega arith)

pub then_fails : (v w : Verdict) (n : ℕ) → v ≡ Fails n → then v w ≡ Fails n
unfolding then
then_fails v w n e = rw e

then_fail : (b : Bool) (n : ℕ) (v w : Verdict) → then (fail_if b n v) w ≡ fail_if b n (then v w)
unfolding then fail_if
then_fail true n v w = refl
then_fail false n v w = refl

pub in_parts : (k : ℕ) (cs : List Check) → then (first_failing (take k cs)) (first_failing (drop k cs)) ≡ first_failing cs
unfolding first_failing then
in_parts zero cs = refl
in_parts (suc k) [] = refl
in_parts (suc k) (c ∷ cs) =
    then_fail (fails c.1) c.0 (first_failing (take k cs)) (first_failing (drop k cs)) ∙ ap (fail_if (fails c.1) c.0) (in_parts k cs)

-- what is found among the first k is found among all
pub fails_in_front : (k : ℕ) (cs : List Check) (n : ℕ) → Fails n ≡ first_failing (take k cs) → Fails n ≡ first_failing cs
fails_in_front k cs n e = sym (then_fails (first_failing (take k cs)) (first_failing (drop k cs)) n (sym e)) ∙ in_parts k cs

-- where the first k pass, the others decide
pub passes_in_front : (k : ℕ) (cs : List Check) → Passes ≡ first_failing (take k cs) → first_failing (drop k cs) ≡ first_failing cs
passes_in_front k cs e = sym (then_passes (first_failing (take k cs)) (first_failing (drop k cs)) (sym e)) ∙ in_parts k cs

-- ---- the numbers of a table

-- all of them have a property
abbrev pub Numbers : (ℕ → Type 0) → List Check → Type 0
Numbers P cs = All (λ c. P c.0) cs

pub both_numbers : (P : ℕ → Type 0) (cs ds : List Check) → Numbers P cs → Numbers P ds → Numbers P (cs ++ ds)
both_numbers P [] ds h k = k
both_numbers P (c ∷ cs) ds h k = (h.0, both_numbers P cs ds h.1 k)

failed_among : (P : ℕ → Type 0) (b : Bool) (m : ℕ) (v : Verdict) (n : ℕ) → P m → (v ≡ Fails n → P n) → fail_if b m v ≡ Fails n → P n
unfolding fail_if
failed_among P true m v n h later e = let same : m ≡ n = cc in subst P same h
failed_among P false m v n h later e = later e

-- then the one that is given has it
pub given_among : (P : ℕ → Type 0) (cs : List Check) → Numbers P cs → (n : ℕ) → first_failing cs ≡ Fails n → P n
unfolding first_failing
given_among P [] h n e = let z : ◌≡◌ {A = ℕ} 0 1 = cc in absurd (omega arith)
given_among P (c ∷ cs) h n e = failed_among P (fails c.1) c.0 (first_failing cs) n h.0 (given_among P cs h.1 n) e

-- no check of a table has the number k
unfoldable pub Without : ℕ → List Check → Type 0
Without k cs = Numbers (λ n. eqb n k ≡ false) cs

-- so that it is not given
pub never_given : (k : ℕ) (cs : List Check) → Without k cs → (n : ℕ) → first_failing cs ≡ Fails n → eqb n k ≡ false
unfolding Without
never_given k cs h n e = given_among (λ m. eqb m k ≡ false) cs h n e
