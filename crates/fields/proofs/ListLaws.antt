-- Laws of lists: what is kept, sums, and what holds of every element.
-- Assumes nothing.
use mathlib.Core.Path.{◌≡◌, refl, sym, ap, ◌∙◌, fun_ext}
use Prim.Native.Nat.{ℕ, zero, suc, ◌+◌, ◌≤◌, ◌<◌}
use native.Mathlib.Omega.{arith}
use mathlib.Core.Bool.{Bool, true, false, not, ◌&&◌, ◌||◌, and_comm, or_assoc, or-false}
use mathlib.Core.List.{List, [], ◌∷◌, ◌++◌, map}
use lib.ListN.{length, get_or, take}
use lib.Dec.{eqb, eqb-suc-zero}
use Rattle.fields.specs.Lists.{All, kept, cons_if, total, any_of}

module _ {ℓ} {A : Type ℓ} where
  All-cons_if : (P : A → Type 0) (b : Bool) (x : A) (xs : List A) → (b ≡ true → P x) → All P xs → All P (cons_if b x xs)
  unfolding cons_if
  All-cons_if P true x xs h hs = (h refl, hs)
  All-cons_if P false x xs h hs = hs

  pub All-kept : (P : A → Type 0) (p : A → Bool) (l : List A) → All P l → All P (kept p l)
  unfolding kept
  All-kept P p [] h = tt
  All-kept P p (x ∷ xs) h = All-cons_if P (p x) x (kept p xs) (λ _. h.0) (All-kept P p xs h.1)

  -- what is kept passes
  pub kept_pass : (p : A → Bool) (l : List A) → All (λ x. p x ≡ true) (kept p l)
  unfolding kept
  kept_pass p [] = tt
  kept_pass p (x ∷ xs) = All-cons_if (λ x. p x ≡ true) (p x) x (kept p xs) (λ e. e) (kept_pass p xs)

  -- where all pass, all are kept
  pub kept_all : (p : A → Bool) (l : List A) → All (λ x. p x ≡ true) l → kept p l ≡ l
  unfolding kept cons_if
  kept_all p [] h = refl
  kept_all p (x ∷ xs) h = rw h.0 (ap (λ (r : List A). x ∷ r) (kept_all p xs h.1))

  -- one element more, as a loop goes on
  pub kept_here : (p : A → Bool) (x : A) (xs : List A) → p x ≡ true → kept p (x ∷ xs) ≡ x ∷ kept p xs
  unfolding kept cons_if
  kept_here p x xs e = rw e

  pub kept_past : (p : A → Bool) (x : A) (xs : List A) → p x ≡ false → kept p (x ∷ xs) ≡ kept p xs
  unfolding kept cons_if
  kept_past p x xs e = rw e

  -- the same test, put another way
  pub kept_same : (p q : A → Bool) (l : List A) → All (λ x. p x ≡ q x) l → kept p l ≡ kept q l
  unfolding kept
  kept_same p q [] h = refl
  kept_same p q (x ∷ xs) h = rw (h.0, kept_same p q xs h.1)

  pub kept-kept : (p : A → Bool) (l : List A) → kept p (kept p l) ≡ kept p l
  kept-kept p l = kept_all p (kept p l) (kept_pass p l)

  total-cons_if : (f : A → ℕ) (b : Bool) (x : A) (xs : List A) → total f (cons_if b x xs) ≤ f x + total f xs
  unfolding cons_if total
  total-cons_if f true x xs = omega arith
  total-cons_if f false x xs = omega arith

  -- a sum over what is kept is at most the sum over all
  pub total_kept : (f : A → ℕ) (p : A → Bool) (l : List A) → total f (kept p l) ≤ total f l
  unfolding kept total
  total_kept f p [] = omega arith
  total_kept f p (x ∷ xs) = omega (arith, total-cons_if f (p x) x (kept p xs), total_kept f p xs)

  length-cons_if : (b : Bool) (x : A) (xs : List A) → length (cons_if b x xs) ≤ suc (length xs)
  unfolding cons_if
  length-cons_if true x xs = omega arith
  length-cons_if false x xs = omega arith

  pub length-kept : (p : A → Bool) (l : List A) → length (kept p l) ≤ length l
  unfolding kept
  length-kept p [] = omega arith
  length-kept p (x ∷ xs) = omega (arith, length-cons_if (p x) x (kept p xs), length-kept p xs)

  -- where as many are kept as there are, all are
  pub kept_whole : (p : A → Bool) (l : List A) → length (kept p l) ≡ length l → kept p l ≡ l
  unfolding kept cons_if
  kept_whole p [] e = refl
  kept_whole p (x ∷ xs) e = go (p x) (λ h. kept_whole p xs h) (length-kept p xs) e
    where
      go : (b : Bool) → (length (kept p xs) ≡ length xs → kept p xs ≡ xs) → length (kept p xs) ≤ length xs
          → length (cons_if b x (kept p xs)) ≡ length (x ∷ xs) → cons_if b x (kept p xs) ≡ x ∷ xs
      go true again few e = ap (λ (r : List A). x ∷ r) (again (omega arith))
      go false again few e = absurd (omega arith)

  pub cons_if-append : (b : Bool) (x : A) (xs ys : List A) → cons_if b x xs ++ ys ≡ cons_if b x (xs ++ ys)
  unfolding cons_if
  cons_if-append true x xs ys = refl
  cons_if-append false x xs ys = refl

  pub kept_append : (p : A → Bool) (xs ys : List A) → kept p (xs ++ ys) ≡ kept p xs ++ kept p ys
  unfolding kept
  kept_append p [] ys = refl
  kept_append p (x ∷ xs) ys = rw (kept_append p xs ys) (sym (cons_if-append (p x) x (kept p xs) (kept p ys)))

  cons_if_both : (p : A → Bool) (x : A) (b c : Bool) → p x ≡ c → (xs : List A) → kept p (cons_if b x xs) ≡ cons_if (b && c) x (kept p xs)
  unfolding kept cons_if
  cons_if_both p x true c e xs = ap (λ (d : Bool). cons_if d x (kept p xs)) e
  cons_if_both p x false c e xs = refl

  -- what one test leaves of what another leaves is what both leave
  pub kept_both : (p q : A → Bool) (l : List A) → kept p (kept q l) ≡ kept (λ x. q x && p x) l
  unfolding kept
  kept_both p q [] = refl
  kept_both p q (x ∷ xs) = cons_if_both p x (q x) (p x) refl (kept q xs) ∙ ap (cons_if (q x && p x) x) (kept_both p q xs)

  pub kept_comm : (p q : A → Bool) (l : List A) → kept p (kept q l) ≡ kept q (kept p l)
  kept_comm p q l = kept_both p q l ∙ ap (λ (t : A → Bool). kept t l) (fun_ext (λ x. and_comm (q x) (p x))) ∙ sym (kept_both q p l)

  -- the same test, put another way
  pub some_same : (p q : A → Bool) (l : List A) → All (λ x. p x ≡ q x) l → any_of p l ≡ any_of q l
  unfolding any_of
  some_same p q [] h = refl
  some_same p q (x ∷ xs) h = rw (h.0, some_same p q xs h.1)

  -- some element passes two tests where one of those that pass the first passes the second
  pub some_kept : (p q : A → Bool) (l : List A) → any_of (λ x. p x && q x) l ≡ any_of q (kept p l)
  unfolding any_of kept cons_if
  some_kept p q [] = refl
  some_kept p q (x ∷ xs) = first (p x) (some_kept p q xs)
    where
      first : (b : Bool) → any_of (λ x. p x && q x) xs ≡ any_of q (kept p xs)
          → ((b && q x) || any_of (λ x. p x && q x) xs) ≡ any_of q (cons_if b x (kept p xs))
      first true e = ap (λ (r : Bool). q x || r) e
      first false e = e

  -- and none passes where none is kept
  pub some_counted : (p : A → Bool) (l : List A) → any_of p l ≡ not (eqb (length (kept p l)) 0)
  unfolding any_of kept cons_if
  some_counted p [] = refl
  some_counted p (x ∷ xs) = first (p x) (some_counted p xs)
    where
      first : (b : Bool) → any_of p xs ≡ not (eqb (length (kept p xs)) 0)
          → (b || any_of p xs) ≡ not (eqb (length (cons_if b x (kept p xs))) 0)
      first true e = ap not (sym (eqb-suc-zero (length (kept p xs))))
      first false e = e

  -- of the first elements, and one more
  pub some_take : (p : A → Bool) (n : ℕ) (l : List A) (d : A) → n < length l
      → any_of p (take (suc n) l) ≡ (any_of p (take n l) || p (get_or l n d))
  unfolding any_of
  some_take p n [] d h = absurd (omega arith)
  some_take p zero (x ∷ xs) d h = or-false (p x)
  some_take p (suc n) (x ∷ xs) d h =
      ap (λ (r : Bool). p x || r) (some_take p n xs d (omega arith)) ∙ sym (or_assoc (p x) (any_of p (take n xs)) (p (get_or xs n d)))

  pub all_of : (P : A → Type 0) (l : List A) → ((x : A) → P x) → All P l
  all_of P [] h = tt
  all_of P (x ∷ xs) h = (h x, all_of P xs h)

-- ---- what is made of each element

module _ {A B : Type 0} (f : A → B) where
  pub map-cons_if : (b : Bool) (x : A) (xs : List A) → map f (cons_if b x xs) ≡ cons_if b (f x) (map f xs)
  unfolding cons_if
  map-cons_if true x xs = refl
  map-cons_if false x xs = refl

  -- kept before or afterwards
  pub kept_map : (p : B → Bool) (l : List A) → kept p (map f l) ≡ map f (kept (λ x. p (f x)) l)
  unfolding kept
  kept_map p [] = refl
  kept_map p (x ∷ xs) = rw (map-cons_if, kept_map p xs)

  -- of each of these in turn
  pub map-map : {C : Type 0} (g : B → C) (l : List A) → map g (map f l) ≡ map (λ x. g (f x)) l
  map-map g [] = refl
  map-map {C = C} g (x ∷ xs) = ap (λ (r : List C). g (f x) ∷ r) (map-map g xs)

  -- the same, put another way
  pub map_same : (g : A → B) (l : List A) → All (λ x. f x ≡ g x) l → map f l ≡ map g l
  map_same g [] h = refl
  map_same g (x ∷ xs) h = rw h.0 (ap (λ (r : List B). g x ∷ r) (map_same g xs h.1))
