-- Laws of the largest and smallest stored values: each is one of the values, and no value lies beyond it.
-- Assumes nothing.
use mathlib.Core.Path.{◌≡◌, refl}
use native.Mathlib.Omega.{arith}
use mathlib.Core.Bool.{Bool, true, false, cond}
use mathlib.Core.List.{List, [], ◌∷◌, Memᴰ}
use lib.Dec.{T, not_T, ltb→lt, le→leb}
use lib.IntN.{ℤ, pos, negsuc}
use lib.Signed.{lt_z, le_z, ◌≤ℤ◌, lt_z_yes, lt_z_no, ≤ℤ_refl, <ℤ-≤ℤ_trans, <ℤ_irrefl}
use Rattle.fields.specs.Lists.{All}
use Rattle.publicpart.specs.Bounds.{larger_of, smaller_of, largest, smallest}

-- ---- the order of whole numbers

≤ℤ_trans : (a b c : ℤ) → a ≤ℤ b → b ≤ℤ c → a ≤ℤ c
≤ℤ_trans a b c h k = lt_z_no (not_T (lt_z c a) (λ t. <ℤ_irrefl (<ℤ-≤ℤ_trans (<ℤ-≤ℤ_trans (lt_z_yes t) h) k)))

lt_le : (a b : ℤ) → T (lt_z a b) → T (le_z a b)
lt_le (pos a) (pos b) t = le→leb a b (omega (arith, ltb→lt a b t))
lt_le (pos a) (negsuc b) t = absurd t
lt_le (negsuc a) (pos b) t = tt
lt_le (negsuc a) (negsuc b) t = le→leb b a (omega (arith, ltb→lt b a t))

less : (a b : ℤ) → lt_z a b ≡ true → a ≤ℤ b
less a b e = record { le = lt_le a b (rw e tt) }

no_less : (a b : ℤ) → lt_z a b ≡ false → b ≤ℤ a
no_less a b e = lt_z_no (rw e tt)

-- ---- the best of a list of values, by an order and the test that it is chosen by

-- one of the values, with every value in the order R to it
pub record Extreme (R : ℤ → ℤ → Type 0) (zs : List ℤ) (best : ℤ) : Type 0 where
  pub among : Memᴰ best zs
  pub of_all : All (λ z. R z best) zs

module _ (R : ℤ → ℤ → Type 0) (R-trans : (a b c : ℤ) → R a b → R b c → R a c) (z y : ℤ) (ys : List ℤ) (best : ℤ) where
  skip : Memᴰ best (z ∷ ys) → Memᴰ best (z ∷ y ∷ ys)
  skip (Memᴰ.head e) = Memᴰ.head e
  skip (Memᴰ.tail m) = Memᴰ.tail (Memᴰ.tail m)

  -- of two values the better one stands for both
  choose : (b : Bool) → (b ≡ true → R z y) → (b ≡ false → R y z) → Extreme R (cond b y z ∷ ys) best → Extreme R (z ∷ y ∷ ys) best
  choose true up down h = record { among = Memᴰ.tail h.among; of_all = (R-trans z y best (up refl) h.of_all.0, h.of_all) }
  choose false up down h =
      record { among = skip h.among; of_all = (h.of_all.0, (R-trans y z best (down refl) h.of_all.0, h.of_all.1)) }

abbrev pub AtMost : ℤ → ℤ → Type 0
AtMost a b = a ≤ℤ b

abbrev pub AtLeast : ℤ → ℤ → Type 0
AtLeast a b = b ≤ℤ a

pub largest_is : (z : ℤ) (ys : List ℤ) → Extreme AtMost (z ∷ ys) (largest z ys)
unfolding largest
largest_is z [] = record { among = Memᴰ.head refl; of_all = (≤ℤ_refl z, tt) }
largest_is z (y ∷ ys) =
    choose AtMost ≤ℤ_trans z y ys (largest (larger_of z y) ys) (lt_z z y) (less z y) (no_less z y) (largest_is (larger_of z y) ys)

pub smallest_is : (z : ℤ) (ys : List ℤ) → Extreme AtLeast (z ∷ ys) (smallest z ys)
unfolding smallest
smallest_is z [] = record { among = Memᴰ.head refl; of_all = (≤ℤ_refl z, tt) }
smallest_is z (y ∷ ys) =
    choose AtLeast (λ a b c h k. ≤ℤ_trans c b a k h) z y ys (smallest (smaller_of z y) ys) (lt_z y z) (less y z) (no_less y z) (smallest_is (smaller_of z y) ys)
