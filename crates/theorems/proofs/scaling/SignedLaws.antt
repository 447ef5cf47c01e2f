-- Laws of whole numbers by sign and size: ±a is plus s a - less s a, so that orders and sums are facts about natural
-- numbers.
-- Assumes nothing.
use mathlib.Core.Path.{◌≡◌, refl, sym, ap, ◌∙◌}
use Prim.Native.Nat.{ℕ, zero, suc, ◌+◌, ◌-◌, ◌*◌, ◌≤◌, ◌<◌}
use native.Mathlib.Nat.{add-mul, zero-mul, mul_comm, mul-pos, mul-mul-mul_comm, mul-le-mul_right, le_of_mul-le-mul_right, eq_of_mul-eq-mul_right}
use native.Mathlib.Omega.{arith}
use mathlib.Core.Bool.{Bool, true, false, not, cond}
use lib.Dec.{T, ltb, ltb→lt, nltb→le, leb→le}
use lib.IntN.{ℤ, pos, negsuc, nat_abs, sub_ℕ, ◌+ℤ◌, ◌*ℤ◌}
use lib.Signed.{◌≤ℤ◌}
use Rattle.theorems.specs.Coordinates.{signed}

abbrev pub plus : Bool → ℕ → ℕ
plus s a = cond s 0 a

abbrev pub less : Bool → ℕ → ℕ
less s a = cond s a 0

-- ±a ≤ ±b
abbrev pub Le : Bool → ℕ → Bool → ℕ → Type 0
Le s a t b = plus s a + less t b ≤ plus t b + less s a

-- ±a = ±b
abbrev pub SameValue : Bool → ℕ → Bool → ℕ → Type 0
SameValue s a t b = plus s a + less t b ≡ plus t b + less s a

-- ±n = ±a + ±b
abbrev pub Sum : Bool → ℕ → Bool → ℕ → Bool → ℕ → Type 0
Sum r n s a t b = plus r n + less s a + less t b ≡ less r n + plus s a + plus t b

-- ---- times a number above 0, and back

plus-mul : (s : Bool) (a k : ℕ) → plus s a * k ≡ plus s (a * k)
plus-mul true a k = zero-mul k
plus-mul false a k = refl

less-mul : (s : Bool) (a k : ℕ) → less s a * k ≡ less s (a * k)
less-mul true a k = refl
less-mul false a k = zero-mul k

pub Le-mul : (s t : Bool) (a b k : ℕ) → Le s a t b → Le s (a * k) t (b * k)
Le-mul s t a b k h = simp (add-mul, plus-mul, less-mul) at (mul-le-mul_right k h)

pub Le-cancel : (s t : Bool) (a b k : ℕ) → 0 < k → Le s (a * k) t (b * k) → Le s a t b
Le-cancel s t a b k K h = le_of_mul-le-mul_right (simp (add-mul, plus-mul, less-mul) h) K

pub SameValue-mul : (s t : Bool) (a b k : ℕ) → SameValue s a t b → SameValue s (a * k) t (b * k)
SameValue-mul s t a b k h = simp (add-mul, plus-mul, less-mul) at (ap (λ (n : ℕ). n * k) h)

pub SameValue-cancel : (s t : Bool) (a b k : ℕ) → 0 < k → SameValue s (a * k) t (b * k) → SameValue s a t b
SameValue-cancel s t a b k K h = eq_of_mul-eq-mul_right k K _ _ (simp (add-mul, plus-mul, less-mul) h)

pub Sum-mul : (r s t : Bool) (n a b k : ℕ) → Sum r n s a t b → Sum r (n * k) s (a * k) t (b * k)
Sum-mul r s t n a b k h = simp (add-mul, plus-mul, less-mul) at (ap (λ (x : ℕ). x * k) h)

-- the order of ±a / c and ±b / d is that of equal fractions ±x / e and ±y / i
pub Le-cross : (s t : Bool) (x y e i a b c d : ℕ) → 0 < c → 0 < d → x * c ≡ a * e → y * d ≡ b * i
    → Le s (a * d) t (b * c) → Le s (x * i) t (y * e)
Le-cross s t x y e i a b c d C D p q h =
    let left : a * d * (e * i) ≡ x * i * (c * d) =
    mul-mul-mul_comm a d e i ∙ ap (λ (n : ℕ). n * (d * i)) (sym p)
    ∙ ap (λ (n : ℕ). x * c * n) (mul_comm d i) ∙ mul-mul-mul_comm x c i d in
    let right : b * c * (e * i) ≡ y * e * (c * d) =
    ap (λ (n : ℕ). b * c * n) (mul_comm e i) ∙ mul-mul-mul_comm b c i e ∙ ap (λ (n : ℕ). n * (c * e)) (sym q)
    ∙ ap (λ (n : ℕ). y * d * n) (mul_comm c e) ∙ mul-mul-mul_comm y d e c ∙ ap (λ (n : ℕ). y * e * n) (mul_comm d c) in
    Le-cancel s t (x * i) (y * e) (c * d) (mul-pos C D) (rw (left, right) at (Le-mul s t (a * d) (b * c) (e * i) h))

-- ---- equal numbers have equal sizes, and sums of ordered numbers are ordered

pub same_size : (s t : Bool) (a b : ℕ) → SameValue s a t b → a ≡ b
same_size true true a b h = omega arith
same_size true false a b h = omega arith
same_size false true a b h = omega arith
same_size false false a b h = omega arith

pub Sum-order : (r s q t u : Bool) (n a m b o : ℕ) → Sum r n s a u o → Sum q m t b u o → Le s a t b → Le r n q m
Sum-order r s q t u n a m b o x y h = omega arith

plus-le : (s : Bool) (a : ℕ) → plus s a ≤ a
plus-le true a = omega arith
plus-le false a = omega arith

less-le : (s : Bool) (a : ℕ) → less s a ≤ a
less-le true a = omega arith
less-le false a = omega arith

pub Sum-size : (r s t : Bool) (n a b : ℕ) → Sum r n s a t b → n ≤ a + b
Sum-size true s t n a b h = omega (arith, less-le s a, less-le t b)
Sum-size false s t n a b h = omega (arith, plus-le s a, plus-le t b)

-- ---- whole numbers

abbrev pub negative : ℤ → Bool
negative (pos n) = false
negative (negsuc n) = true

pub int_order : (y z : ℤ) → y ≤ℤ z → Le (negative y) (nat_abs y) (negative z) (nat_abs z)
int_order (pos a) (pos b) h = omega (arith, leb→le a b h.le)
int_order (pos a) (negsuc b) h = absurd h.le
int_order (negsuc a) (pos b) h = omega arith
int_order (negsuc a) (negsuc b) h = omega (arith, leb→le b a h.le)

difference : (a b : ℕ) → Sum (negative (sub_ℕ a b)) (nat_abs (sub_ℕ a b)) false a true b
difference a b = go (ltb a b) (ltb→lt a b) (nltb→le a b)
  where
    go : (c : Bool) → (T c → a < b) → (T (not c) → b ≤ a)
        → let z = cond c (negsuc (b - suc a)) (pos (a - b)) in Sum (negative z) (nat_abs z) false a true b
    go true l n = let h = l tt in omega arith
    go false l n = let h = n tt in omega arith

pub int_sum : (z w : ℤ) → Sum (negative (z +ℤ w)) (nat_abs (z +ℤ w)) (negative z) (nat_abs z) (negative w) (nat_abs w)
int_sum (pos a) (pos b) = omega arith
int_sum (pos a) (negsuc b) = difference a (suc b)
int_sum (negsuc a) (pos b) = omega (arith, difference b (suc a))
int_sum (negsuc a) (negsuc b) = omega arith

pub int_sum_size : (z w : ℤ) → nat_abs (z +ℤ w) ≤ nat_abs z + nat_abs w
int_sum_size z w = Sum-size (negative (z +ℤ w)) (negative z) (negative w) (nat_abs (z +ℤ w)) (nat_abs z) (nat_abs w) (int_sum z w)

pub int_times : (z : ℤ) (d : ℕ) → z *ℤ pos d ≡ signed (negative z) (nat_abs z * d)
unfolding signed
int_times (pos n) d = refl
int_times (negsuc n) d = refl

size_signed : (s : Bool) (a : ℕ) → nat_abs (signed s a) ≡ a
unfolding signed
size_signed false a = refl
size_signed true zero = refl
size_signed true (suc a) = refl

pub size_times : (z : ℤ) (d : ℕ) → nat_abs (z *ℤ pos d) ≡ nat_abs z * d
size_times z d = ap nat_abs (int_times z d) ∙ size_signed (negative z) (nat_abs z * d)

pub of_signed : (s t : Bool) (a b : ℕ) → signed s a ≡ signed t b → SameValue s a t b
unfolding signed
of_signed true true a b h = omega (arith, size_signed true a, size_signed true b, ap nat_abs h)
of_signed true false zero b h = omega (arith, ap nat_abs h)
of_signed true false (suc a) b h = cc
of_signed false true a zero h = omega (arith, ap nat_abs h)
of_signed false true a (suc b) h = cc
of_signed false false a b h = omega (arith, ap nat_abs h)

pub to_signed : (s t : Bool) (a b : ℕ) → SameValue s a t b → signed s a ≡ signed t b
unfolding signed
to_signed true true a b h = let e : a ≡ b = omega arith in rw e
to_signed true false a b h = let z : a ≡ 0 = omega arith in let e : b ≡ 0 = omega arith in rw (z, e)
to_signed false true a b h = let z : a ≡ 0 = omega arith in let e : b ≡ 0 = omega arith in rw (z, e)
to_signed false false a b h = let e : a ≡ b = omega arith in rw e

pub signed-times : (s : Bool) (a d : ℕ) → signed s a *ℤ pos d ≡ signed s (a * d)
unfolding signed
signed-times false a d = refl
signed-times true zero d = rw (zero-mul d)
signed-times true (suc a) d = refl
