-- Laws of rounding: a fraction of bounded size rounds to a finite double, in order, and is kept where the double can
-- hold it. A sum of finite doubles and a product are one rounding each. Assumes nothing.
use mathlib.Core.Path.{◌≡◌, refl, sym, ap, ◌∙◌, subst}
use mathlib.Core.Logic.{◌⊎◌, inl, inr, ⊎_elim}
use Prim.Native.Nat.{ℕ, zero, suc, zero-le, ◌+◌, ◌-◌, ◌*◌, ◌^◌, ◌≤◌, ◌<◌}
use native.Mathlib.Nat.{add-mul, zero-mul, mul-one, mul_assoc, mul_comm, mul_right_comm, mul-mul-mul_comm, mul-pos, mul-le-mul_right, zero-lt-suc, eq-or-lt_of_le, lt_of_lt_of_le}
use native.Mathlib.Omega.{arith}
use mathlib.Core.Bool.{Bool, true, false, not, ◌&&◌, ◌||◌, cond}
use lib.IntN.{ℤ, pos, negsuc, nat_abs}
use lib.Dec.{T, ltb, eqb, ltb→lt, lt→ltb, nltb→le, eqb→eq}
use lib.Pow.{pow-add, pow_pos, pow_mono, shl_lt}
use lib.Ieee.{Float, nan, inf, fin, Format, prec, emax, low, up, down, unlike, odd, units, round, sum, add, mul, of_int, le, below, level}
use lib.Ieee.Digits.{back}
use lib.Ieee.Fits.{round_is, reach, down_pos, and_l, and_r, and_i, eq→eqb}
use lib.Ieee.Exact.{HasValue, units_val, round_exact}
use lib.Ieee.Order.{drop, kept, round_mono}
use lib.Ieee.Back.{round_whole}
use lib.Ieee.Scale.{round_same, grid, overflow, finite}
use Rattle.theorems.proofs.scaling.SignedLaws.{Le, Sum, Le-mul, Le-cancel, Le-cross, Sum-mul, Sum-order, Sum-size, negative}

-- ---- the order of two finite doubles is that of their fractions

or_split : (a b : Bool) → T (a || b) → T a ⊎ T b
or_split true b t = inl tt
or_split false b t = inr t

or_l : (a b : Bool) → T a → T (a || b)
or_l true b t = tt
or_l false b t = absurd t

or_r : (a b : Bool) → T b → T (a || b)
or_r true b t = tt
or_r false b t = t

apart : (x : Bool) (a b : ℕ) → T (x || (eqb a b && true)) → T x ⊎ (a ≡ b)
apart x a b h = ⊎_elim (λ u. inl u) (λ u. inr (eqb→eq a b (and_l (eqb a b) true u))) (or_split x (eqb a b && true) h)

test_Le : (s t : Bool) (a b : ℕ) → T (below s a t b || level s a t b) → Le s a t b
test_Le false false a b h = ⊎_elim (λ u. omega (arith, ltb→lt a b u)) (λ e. omega arith) (apart (ltb a b) a b h)
test_Le false true a b h = omega (arith, eqb→eq a b (and_l (eqb a b) (eqb a 0) h), eqb→eq a 0 (and_r (eqb a b) (eqb a 0) h))
test_Le true false a b h = omega arith
test_Le true true a b h = ⊎_elim (λ u. omega (arith, ltb→lt b a u)) (λ e. omega arith) (apart (ltb b a) a b h)

equal : (a b : ℕ) (c : Bool) → a ≡ b → T c → T (eqb a b && c)
equal a b c e t = and_i (eqb a b) c (eq→eqb e) t

both_zero : (a b : ℕ) → a + b ≤ 0 → T (eqb a b && eqb a 0)
both_zero a b h =
    let e : a ≡ 0 = omega arith in
    equal a b (eqb a 0) (omega arith) (eq→eqb e)

either_test : (x y : Bool) (a b : ℕ) → a ≤ b → (a < b → T x) → (a ≡ b → T y) → T (x || y)
either_test x y a b h p q = ⊎_elim (λ e. or_r x y (q e)) (λ l. or_l x y (p l)) (eq-or-lt_of_le h)

Le-test : (s t : Bool) (a b : ℕ) → Le s a t b → T (below s a t b || level s a t b)
Le-test false false a b h = either_test (ltb a b) (eqb a b && true) a b (omega arith) (lt→ltb a b) (λ e. equal a b true e tt)
Le-test false true a b h = both_zero a b (omega arith)
Le-test true false a b h = either_test (ltb 0 (a + b)) (eqb a b && eqb a 0) 0 (a + b) (omega arith) (lt→ltb 0 (a + b)) (λ e. both_zero a b (omega arith))
Le-test true true a b h = either_test (ltb b a) (eqb a b && true) b a (omega arith) (lt→ltb b a) (λ e. equal a b true (sym e) tt)

pub fin-le : (s t : Bool) (m n : ℕ) (e d : ℤ) → Le s (m * up e * down d) t (n * up d * down e)
    → T (le (fin s m e) (fin t n d))
unfolding le
fin-le s t m n e d h = Le-test s t (m * up e * down d) (n * up d * down e) h

pub le-fin : (s t : Bool) (m n : ℕ) (e d : ℤ) → T (le (fin s m e) (fin t n d))
    → Le s (m * up e * down d) t (n * up d * down e)
unfolding le
le-fin s t m n e d h = test_Le s t (m * up e * down d) (n * up d * down e) h

-- ---- and that of any fractions that they equal

values_le : (x y : Float) (s t : Bool) (a c b d : ℕ) → 0 < c → 0 < d → HasValue x s a c → HasValue y t b d
    → Le s (a * d) t (b * c) → T (le x y)
values_le nan y s t a c b d C D v w h = elim v [ ]
values_le (inf _) y s t a c b d C D v w h = elim v [ ]
values_le (fin s' m e) nan s t a c b d C D v w h = elim w [ ]
values_le (fin s' m e) (inf _) s t a c b d C D v w h = elim w [ ]
values_le (fin s' m e) (fin t' n i) s t a c b d C D v w h =
    fin-le s' t' m n e i (rw (v.0, w.0) (Le-cross s t (m * up e) (n * up i) (down e) (down i) a b c d C D v.1 w.1 h))

le_values : (x y : Float) (s t : Bool) (a c b d : ℕ) → HasValue x s a c → HasValue y t b d → T (le x y)
    → Le s (a * d) t (b * c)
le_values nan y s t a c b d v w h = elim v [ ]
le_values (inf _) y s t a c b d v w h = elim v [ ]
le_values (fin s' m e) nan s t a c b d v w h = elim w [ ]
le_values (fin s' m e) (inf _) s t a c b d v w h = elim w [ ]
le_values (fin s' m e) (fin t' n i) s t a c b d v w h =
    Le-cross s t a b c d (m * up e) (n * up i) (down e) (down i) (down_pos e) (down_pos i) (sym v.1) (sym w.1)
    (rw (v.0, w.0) at (le-fin s' t' m n e i h))

pub value_finite : (x : Float) (s : Bool) (a c : ℕ) → HasValue x s a c → T (finite x)
value_finite nan s a c v = elim v [ ]
value_finite (inf _) s a c v = elim v [ ]
value_finite (fin t m e) s a c v = tt

-- ---- rounding a / c, where a / c ≤ B and every whole number up to B is a double

not_under : (y : Float) → T (finite y) → T (le (inf false) y) → ⊥
unfolding le
not_under nan p h = elim p [ ]
not_under (inf _) p h = elim p [ ]
not_under (fin s m e) p h = h

under : (f : Format) (a c : ℕ) (y : Float) → T (finite y) → T (le (round f false a c) y) → grid f a c < overflow f
unfolding units
under f a c y p h =
    go (ltb (grid f a c) (overflow f)) (ltb→lt (grid f a c) (overflow f)) (subst (λ (x : Float). T (le x y)) (round_is f false a c) h)
  where
    go : (b : Bool) → (T b → grid f a c < overflow f)
        → T (le (cond b (odd (suc (prec f)) false (kept (prec f) (a * 2 ^ low f) c) (drop (prec f) (a * 2 ^ low f) c) (low f)) (inf false)) y)
        → grid f a c < overflow f
    go true l t = l tt
    go false l t = absurd (not_under y p t)

module _ (f : Format) (B : ℕ) (held : B ≤ 2 ^ prec f) where
  whole : HasValue (round f false B 1) false B 1
  whole = round_whole f false B held

  up_to : (a c : ℕ) → 0 < c → a ≤ B * c → T (le (round f false a c) (round f false B 1))
  up_to a c C h = round_mono f a c B 1 C (zero-lt-suc 0) (omega arith)

  -- it is finite, with the sign that was given
  pub round_value : (s : Bool) (a c : ℕ) → 0 < c → a ≤ B * c → HasValue (round f s a c) s (grid f a c) (2 ^ low f)
  round_value s a c C h =
      subst (λ (x : Float). HasValue x s (grid f a c) (2 ^ low f)) (sym (round_is f s a c))
      (units_val f s (kept (prec f) (a * 2 ^ low f) c) (drop (prec f) (a * 2 ^ low f) c)
      (under f a c (round f false B 1) (value_finite (round f false B 1) false B 1 whole) (up_to a c C h)))

  -- and no larger than B
  pub grid_small : (a c : ℕ) → 0 < c → a ≤ B * c → grid f a c ≤ B * 2 ^ low f
  grid_small a c C h =
      let l : Le false (grid f a c * 1) false (B * 2 ^ low f) =
      le_values (round f false a c) (round f false B 1) false false (grid f a c) (2 ^ low f) B 1
      (round_value false a c C h) whole (up_to a c C h) in
      omega arith

  grid_mono : (a c b d : ℕ) → 0 < c → 0 < d → a ≤ B * c → b ≤ B * d → a * d ≤ b * c → grid f a c ≤ grid f b d
  grid_mono a c b d C D h k o =
      let l : Le false (grid f a c * 2 ^ low f) false (grid f b d * 2 ^ low f) =
      le_values (round f false a c) (round f false b d) false false (grid f a c) (2 ^ low f) (grid f b d) (2 ^ low f)
      (round_value false a c C h) (round_value false b d D k) (round_mono f a c b d C D o) in
      omega (arith, Le-cancel false false (grid f a c) (grid f b d) (2 ^ low f) (pow_pos (low f)) l)

no_fraction : (a d : ℕ) → 0 < d → a * d ≤ 0 → a ≡ 0
no_fraction zero d D h = refl
no_fraction (suc a) d D h = absurd (omega (arith, mul-pos (zero-lt-suc a) D))

nothing : (f : Format) (a c : ℕ) → 0 < c → a ≡ 0 → grid f a c ≡ 0
nothing f a c C e =
    let z : 0 * 2 ^ low f ≡ 0 = zero-mul (2 ^ low f) in
    let n : 0 * c ≡ 0 = zero-mul c in
    omega (arith, grid_small f 0 zero-le a c C (omega arith))

module _ (f : Format) (B : ℕ) (held : B ≤ 2 ^ prec f) (a c b d : ℕ) (C : 0 < c) (D : 0 < d) (h : a ≤ B * c) (k : b ≤ B * d) where
  grid_order : (s t : Bool) → Le s (a * d) t (b * c) → Le s (grid f a c) t (grid f b d)
  grid_order true true o = omega (arith, grid_mono f B held b d a c D C k h (omega arith))
  grid_order true false o = omega arith
  grid_order false true o =
      omega (arith, nothing f a c C (no_fraction a d D (omega arith)), nothing f b d D (no_fraction b c C (omega arith)))
  grid_order false false o = omega (arith, grid_mono f B held a c b d C D h k (omega arith))

  -- ±a / c ≤ ±b / d stays so when both are rounded
  pub round_order : (s t : Bool) → Le s (a * d) t (b * c) → T (le (round f s a c) (round f t b d))
  round_order s t o =
      values_le (round f s a c) (round f t b d) s t (grid f a c) (2 ^ low f) (grid f b d) (2 ^ low f) (pow_pos (low f)) (pow_pos (low f))
      (round_value f B held s a c C h) (round_value f B held t b d D k)
      (Le-mul s t (grid f a c) (grid f b d) (2 ^ low f) (grid_order s t o))

room : (p l k x : ℕ) → p ≤ x → k ≤ l → p + (l - k) ≤ l + x
room p l k x h q = omega arith

-- a fraction that is a / 2 ^ k, with a of no more digits than a double keeps, is kept
pub round_kept : (f : Format) (s : Bool) (a k n c : ℕ) → 0 < c → a < 2 ^ prec f → k ≤ low f → n * 2 ^ k ≡ a * c
    → HasValue (round f s n c) s a (2 ^ k)
round_kept f s a k n c C small kl h =
    let l = low f in
    let split : 2 ^ (l - k) * 2 ^ k ≡ 2 ^ l = sym (pow-add 2 (l - k) k) ∙ ap (λ (i : ℕ). 2 ^ i) (back l k kl) in
    subst (λ (x : Float). HasValue x s a (2 ^ k)) (sym (round_same f s n c a (2 ^ k) C (pow_pos k) h))
    (round_exact f s a (2 ^ k) a (l - k) (pow_pos k) small
    (lt_of_lt_of_le (shl_lt (prec f) (l - k) small) (pow_mono (room (prec f) l k (suc (emax f)) (reach f) kl)))
    (ap (λ (x : ℕ). a * x) (sym split) ∙ sym (mul_assoc a (2 ^ (l - k)) (2 ^ k))))

-- ---- a sum ±a / c + ±b / c is one rounding

pub record Rounded (f : Format) (s : Bool) (a : ℕ) (t : Bool) (b c : ℕ) (x : Float) : Type 0 where
  pub sign : Bool
  pub size : ℕ
  pub is : x ≡ round f sign size c
  pub total : Sum sign size s a t b

module _ (f : Format) (a b c : ℕ) where
  rounded : (s t r : Bool) (n : ℕ) → Sum r n s a t b → Rounded f s a t b c (round f r n c)
  rounded s t r n h = record { sign = r; size = n; is = refl; total = h }

  unequal : (s p q : Bool) → (T p → a < b) → (T (not p) → b ≤ a) → (T (not q) → a ≤ b)
      → Rounded f s a (not s) b c (cond p (round f (not s) (b - a) c) (round f (s && q) (a - b) c))
  unequal true true q l n m = let h = l tt in rounded true false false (b - a) (omega arith)
  unequal false true q l n m = let h = l tt in rounded false true true (b - a) (omega arith)
  unequal true false true l n m = let h = n tt in rounded true false true (a - b) (omega arith)
  unequal true false false l n m = let h = n tt in let k = m tt in rounded true false false (a - b) (omega arith)
  unequal false false q l n m = let h = n tt in rounded false true false (a - b) (omega arith)

  pub sum_rounded : (s t : Bool) → Rounded f s a t b c (sum f s a t b c)
  unfolding sum
  sum_rounded true true = rounded true true true (a + b) (omega arith)
  sum_rounded false false = rounded false false false (a + b) (omega arith)
  sum_rounded true false = unequal true (ltb a b) (ltb b a) (ltb→lt a b) (nltb→le a b) (nltb→le b a)
  sum_rounded false true = unequal false (ltb a b) (ltb b a) (ltb→lt a b) (nltb→le a b) (nltb→le b a)

-- ---- a product of a whole number and a double that is not negative is one rounding

like : (s : Bool) → unlike s false ≡ s
like true = refl
like false = refl

mul_is : (f : Format) (x : Float) (s : Bool) (a n : ℕ) (d : ℤ) → HasValue x s a 1
    → mul f x (fin false n d) ≡ round f s (a * (n * up d)) (down d)
unfolding mul
mul_is f nan s a n d v = elim v [ ]
mul_is f (inf _) s a n d v = elim v [ ]
mul_is f (fin t m e) s a n d v =
    let N = n * up d in
    let whole : m * up e ≡ a * down e = sym (mul-one (m * up e)) ∙ v.1 in
    ap (λ (u : Bool). round f u (m * up e * N) (down e * down d)) (like t ∙ v.0)
    ∙ round_same f s (m * up e * N) (down e * down d) (a * N) (down d) (mul-pos (down_pos e) (down_pos d)) (down_pos d)
    (ap (λ (z : ℕ). z * N * down d) whole ∙ ap (λ (z : ℕ). z * down d) (mul_right_comm a (down e) N)
    ∙ mul_assoc (a * N) (down e) (down d))

pub int_value : (f : Format) (z : ℤ) → nat_abs z ≤ 2 ^ prec f → HasValue (of_int f z) (negative z) (nat_abs z) 1
unfolding of_int
int_value f (pos n) h = round_whole f false n h
int_value f (negsuc n) h = round_whole f true (suc n) h

pub product_is : (f : Format) (z : ℤ) (n : ℕ) (d : ℤ) → nat_abs z ≤ 2 ^ prec f
    → mul f (of_int f z) (fin false n d) ≡ round f (negative z) (nat_abs z * (n * up d)) (down d)
product_is f z n d h = mul_is f (of_int f z) (negative z) (nat_abs z) n d (int_value f z h)

-- ---- doubles of size at most B: finite, and their sums are finite and in order

abbrev pub SizeUpTo : ℕ → Float → Type 0
SizeUpTo B nan = ⊥
SizeUpTo B (inf s) = ⊥
SizeUpTo B (fin s m e) = m * up e ≤ B * down e

pub bounded_finite : (B : ℕ) (x : Float) → SizeUpTo B x → T (finite x)
bounded_finite B nan h = elim h [ ]
bounded_finite B (inf _) h = elim h [ ]
bounded_finite B (fin s m e) h = tt

pub round_bounded : (f : Format) (B : ℕ) (s : Bool) (a c : ℕ) → B ≤ 2 ^ prec f → 0 < c → a ≤ B * c
    → SizeUpTo B (round f s a c)
round_bounded f B s a c held C h = of_value (round f s a c) (round_value f B held s a c C h)
  where
    of_value : (x : Float) → HasValue x s (grid f a c) (2 ^ low f) → SizeUpTo B x
    of_value nan v = elim v [ ]
    of_value (inf _) v = elim v [ ]
    of_value (fin t m e) v =
        let l : Le false (grid f a c * 1) false (B * 2 ^ low f) = omega (arith, grid_small f B held a c C h) in
        omega
        (arith, Le-cross false false (m * up e) B (down e) 1 (grid f a c) B (2 ^ low f) 1 (pow_pos (low f)) (zero-lt-suc 0) v.1 refl l)

module _ (f : Format) (A B : ℕ) (held : A + B ≤ 2 ^ prec f) where
  sum_size : (s t r : Bool) (x y e d n : ℕ) → x ≤ A * e → y ≤ B * d → Sum r n s (x * d) t (y * e)
      → n ≤ (A + B) * (e * d)
  sum_size s t r x y e d n h k z =
      let p : x * d ≤ A * (e * d) = rw (mul_assoc A e d) at (mul-le-mul_right d h) in
      let q : y * e ≤ B * (e * d) = rw (mul_assoc B d e, mul_comm d e) at (mul-le-mul_right e k) in
      rw (add-mul A B (e * d)) (omega (arith, Sum-size r s t n (x * d) (y * e) z))

  pub add-finite : (x y : Float) → SizeUpTo A x → SizeUpTo B y → T (finite (add f x y))
  unfolding add
  add-finite nan y h k = elim h [ ]
  add-finite (inf _) y h k = elim h [ ]
  add-finite (fin s m e) nan h k = elim k [ ]
  add-finite (fin s m e) (inf _) h k = elim k [ ]
  add-finite (fin s m e) (fin t n d) h k =
      let C = down e * down d in
      let r = sum_rounded f (m * up e * down d) (n * up d * down e) C s t in
      rw r.is
      (value_finite (round f r.sign r.size C) r.sign _ _
      (round_value f (A + B) held r.sign r.size C (mul-pos (down_pos e) (down_pos d))
      (sum_size s t r.sign (m * up e) (n * up d) (down e) (down d) r.size h k r.total)))

  pub add_order : (x y o : Float) → SizeUpTo A x → SizeUpTo A y → SizeUpTo B o → T (le x y)
      → T (le (add f x o) (add f y o))
  unfolding add
  add_order nan y o hx hy ho l = elim hx [ ]
  add_order (inf _) y o hx hy ho l = elim hx [ ]
  add_order (fin s m e) nan o hx hy ho l = elim hy [ ]
  add_order (fin s m e) (inf _) o hx hy ho l = elim hy [ ]
  add_order (fin s m e) (fin t n d) nan hx hy ho l = elim ho [ ]
  add_order (fin s m e) (fin t n d) (inf _) hx hy ho l = elim ho [ ]
  add_order (fin s m e) (fin t n d) (fin u p c) hx hy ho l =
      let De = down e in
      let Dd = down d in
      let Dc = down c in
      let X = m * up e in
      let Y = n * up d in
      let O = p * up c in
      let S = sum_rounded f (X * Dc) (O * De) (De * Dc) s u in
      let R = sum_rounded f (Y * Dc) (O * Dd) (Dd * Dc) t u in
      let one : Sum S.sign (S.size * (Dd * Dc)) s (X * Dd * (Dc * Dc)) u (O * De * (Dd * Dc)) =
      rw (mul-mul-mul_comm X Dc Dd Dc) at (Sum-mul S.sign s u S.size (X * Dc) (O * De) (Dd * Dc) S.total) in
      let two : Sum R.sign (R.size * (De * Dc)) t (Y * De * (Dc * Dc)) u (O * De * (Dd * Dc)) =
      rw (mul-mul-mul_comm Y Dc De Dc, mul-mul-mul_comm O Dd De Dc)
      at (Sum-mul R.sign t u R.size (Y * Dc) (O * Dd) (De * Dc) R.total) in
      rw (S.is, R.is)
      (round_order f (A + B) held S.size (De * Dc) R.size (Dd * Dc)
      (mul-pos (down_pos e) (down_pos c)) (mul-pos (down_pos d) (down_pos c))
      (sum_size s u S.sign X O De Dc S.size hx ho S.total) (sum_size t u R.sign Y O Dd Dc R.size hy ho R.total)
      S.sign R.sign
      (Sum-order S.sign s R.sign t u _ _ _ _ _ one two (Le-mul s t (X * Dd) (Y * De) (Dc * Dc) (le-fin s t m n e d l))))
