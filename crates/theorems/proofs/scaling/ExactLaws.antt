-- Laws of `Times`: products and sums of doubles that are whole numbers over a power of two are exact while their sizes
-- stay below 2 ^ prec.
-- Assumes nothing.
use mathlib.Core.Path.{◌≡◌, refl, sym, ap, ◌∙◌}
use Prim.Native.Nat.{ℕ, ◌*◌, ◌^◌, ◌≤◌, ◌<◌}
use native.Mathlib.Nat.{mul-one, mul_assoc, mul_comm, mul_right_comm, mul-pos, le_of_lt}
use native.Mathlib.Omega.{arith}
use mathlib.Core.Bool.{Bool, true, false}
use lib.IntN.{ℤ, pos, nat_abs, ◌+ℤ◌, ◌*ℤ◌}
use lib.Ieee.{Float, fin, Format, prec, low, up, down, round, sum, add, mul, of_int}
use lib.Ieee.Fits.{down_pos}
use lib.Ieee.Exact.{HasValue}
use Rattle.theorems.specs.Coordinates.{Times}
use Rattle.theorems.proofs.scaling.SignedLaws.{SameValue, SameValue-mul, SameValue-cancel, Sum-mul, same_size, negative, int_sum, int_times, of_signed, to_signed, signed-times}
use Rattle.theorems.proofs.scaling.RoundLaws.{round_kept, sum_rounded, int_value, product_is}

-- ---- `Times` by sign and size

times_of : (k : ℕ) (x : Float) (s : Bool) (a : ℕ) (z : ℤ) → HasValue x s a (2 ^ k)
    → SameValue s a (negative z) (nat_abs z)
    → Times k x z
unfolding Times
times_of k lib.Ieee.nan s a z v h = elim v [ ]
times_of k (lib.Ieee.inf _) s a z v h = elim v [ ]
times_of k (fin t m e) s a z v h =
    rw (v.0, v.1)
    (to_signed s (negative z) (a * down e) (nat_abs z * down e) (SameValue-mul s (negative z) a (nat_abs z) (down e) h)
    ∙ sym (int_times z (down e)))

of_times : (k : ℕ) (s : Bool) (m : ℕ) (e : ℤ) (z : ℤ) → Times k (fin s m e) z
    → SameValue s (m * up e * 2 ^ k) (negative z) (nat_abs z * down e)
unfolding Times
of_times k s m e z h = of_signed s (negative z) (m * up e * 2 ^ k) (nat_abs z * down e) (h ∙ int_times z (down e))

-- ---- a whole number, and one times 2 ^ -k

pub times_int : (f : Format) (z : ℤ) → nat_abs z ≤ 2 ^ prec f → Times 0 (of_int f z) z
times_int f z h = times_of 0 (of_int f z) (negative z) (nat_abs z) z (int_value f z h) refl

pub times_product : (f : Format) (k : ℕ) (z : ℤ) (y : Float) → k ≤ low f → nat_abs z < 2 ^ prec f → Times k y (pos 1)
    → Times k (mul f (of_int f z) y) z
unfolding Times
times_product f k z lib.Ieee.nan kl small h = elim h [ ]
times_product f k z (lib.Ieee.inf _) kl small h = elim h [ ]
times_product f k z (fin true n d) kl small h = absurd (omega (arith, down_pos d, of_times k true n d (pos 1) h))
times_product f k z (fin false n d) kl small h =
    let one : n * up d * 2 ^ k ≡ down d = omega (arith, of_times k false n d (pos 1) h) in
    rw (product_is f z n d (le_of_lt small))
    (times_of k (round f (negative z) (nat_abs z * (n * up d)) (down d)) (negative z) (nat_abs z) z
    (round_kept f (negative z) (nat_abs z) k (nat_abs z * (n * up d)) (down d) (down_pos d) small kl
    (mul_assoc (nat_abs z) (n * up d) (2 ^ k) ∙ ap (λ (i : ℕ). nat_abs z * i) one))
    refl)

-- ---- a sum

-- ±a / c + ±b / c, rounded, where the two are z / 2 ^ k and w / 2 ^ k
times-sum : (f : Format) (k : ℕ) (s t : Bool) (a b c : ℕ) (z w : ℤ) → k ≤ low f → nat_abs (z +ℤ w) < 2 ^ prec f → 0 < c
    → SameValue s (a * 2 ^ k) (negative z) (nat_abs z * c) → SameValue t (b * 2 ^ k) (negative w) (nat_abs w * c)
    → Times k (sum f s a t b c) (z +ℤ w)
times-sum f k s t a b c z w kl small C p q =
    let v = z +ℤ w in
    let n = nat_abs v in
    let r = sum_rounded f a b c s t in
    let one = Sum-mul r.sign s t r.size a b (2 ^ k) r.total in
    let two = Sum-mul (negative v) (negative z) (negative w) n (nat_abs z) (nat_abs w) c (int_sum z w) in
    let both : SameValue r.sign (r.size * 2 ^ k) (negative v) (n * c) = omega arith in
    let sizes : r.size * 2 ^ k ≡ n * c = same_size r.sign (negative v) (r.size * 2 ^ k) (n * c) both in
    rw r.is
    (times_of k (round f r.sign r.size c) r.sign n v (round_kept f r.sign n k r.size c C small kl sizes)
    (SameValue-cancel r.sign (negative v) n n c C (rw sizes at both)))

pub times_add : (f : Format) (k : ℕ) (x y : Float) (z w : ℤ) → k ≤ low f → nat_abs (z +ℤ w) < 2 ^ prec f
    → Times k x z → Times k y w → Times k (add f x y) (z +ℤ w)
unfolding add Times
times_add f k lib.Ieee.nan y z w kl small p q = elim p [ ]
times_add f k (lib.Ieee.inf _) y z w kl small p q = elim p [ ]
times_add f k (fin s m e) lib.Ieee.nan z w kl small p q = elim q [ ]
times_add f k (fin s m e) (lib.Ieee.inf _) z w kl small p q = elim q [ ]
times_add f k (fin s m e) (fin t n d) z w kl small p q =
    let a = m * up e in
    let b = n * up d in
    let one : SameValue s (a * down d * 2 ^ k) (negative z) (nat_abs z * (down e * down d)) =
    rw (mul_right_comm a (2 ^ k) (down d), mul_assoc (nat_abs z) (down e) (down d))
    at (SameValue-mul s (negative z) (a * 2 ^ k) (nat_abs z * down e) (down d) (of_times k s m e z p)) in
    let two : SameValue t (b * down e * 2 ^ k) (negative w) (nat_abs w * (down e * down d)) =
    rw (mul_right_comm b (2 ^ k) (down e), mul_assoc (nat_abs w) (down d) (down e), mul_comm (down d) (down e))
    at (SameValue-mul t (negative w) (b * 2 ^ k) (nat_abs w * down d) (down e) (of_times k t n d w q)) in
    times-sum f k s t (a * down d) (b * down e) (down e * down d) z w kl small (mul-pos (down_pos e) (down_pos d)) one two

-- ---- a whole number, at a finer step

pub times_finer : (k : ℕ) (x : Float) (z : ℤ) → Times 0 x z → Times k x (z *ℤ pos (2 ^ k))
unfolding Times
times_finer k lib.Ieee.nan z h = elim h [ ]
times_finer k (lib.Ieee.inf _) z h = elim h [ ]
times_finer k (fin s m e) z h =
    let n = nat_abs z in
    let fine : SameValue s (m * up e * 2 ^ k) (negative z) (n * 2 ^ k * down e) =
    rw (mul-one (m * up e), mul_right_comm n (down e) (2 ^ k))
    at (SameValue-mul s (negative z) (m * up e * 1) (n * down e) (2 ^ k) (of_times 0 s m e z h)) in
    rw (int_times z (2 ^ k))
    (to_signed s (negative z) (m * up e * 2 ^ k) (n * 2 ^ k * down e) fine ∙ sym (signed-times (negative z) (n * 2 ^ k) (down e)))
