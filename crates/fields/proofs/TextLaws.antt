-- Laws of texts. Only this file, and the table of samples, opens `cut`.
-- Assumes nothing.
use mathlib.Core.Path.{◌≡◌, refl, sym, ap, ap₂, subst, ◌∙◌}
use mathlib.Core.Logic.{◌⊎◌, inl, inr}
use mathlib.Core.Bool.{Bool, true, false, not, ◌&&◌}
use Prim.Native.Nat.{ℕ, zero, suc, ◌+◌, ◌-◌, ◌≤◌, ◌<◌}
use native.Mathlib.Omega.{arith}
use native.Mathlib.Numerals.{add-one}
use mathlib.Core.List.{[], ◌∷◌, ◌++◌, append-nil}
use lib.ListN.{length, take, drop, get_or, replicate, length-append, length-replicate}
use lib.Dec.{T, eqb, eqb→eq, eqb_refl, ltb, ltb→lt}
use Rattle.fields.specs.Bytes.{Bytes, zeros, part}
use Rattle.fields.specs.Lists.{All, cons_if}
use Rattle.fields.specs.Text.{cons_trimmed, cut, padded, Held}
use Rattle.fields.proofs.ByteLaws.{and_parts, length-part-le}

-- ---- a byte in front of a trimmed text

-- a space in front of nothing goes
pub space_goes : (b : ℕ) → b ≡ 32 → cons_trimmed b [] ≡ []
unfolding cons_if
space_goes b e = rw e refl

other_alone : (b : ℕ) (x : Bool) → eqb b 32 ≡ x → (b ≡ 32 → ⊥) → cons_if (not x) b [] ≡ b ∷ []
unfolding cons_if
other_alone b true e n = absurd (n (eqb→eq b 32 (subst T (sym e) tt)))
other_alone b false e n = refl

-- any other byte stays
pub other_stays : (b : ℕ) (t : Bytes) → (b ≡ 32 → ⊥) → cons_trimmed b t ≡ b ∷ t
other_stays b [] n = other_alone b (eqb b 32) refl n
other_stays b (c ∷ cs) n = refl

-- ---- the cut, byte by byte

cut_nothing : cut [] ≡ []
unfolding cut
cut_nothing = refl

cut_zero : (b : ℕ) (t : Bytes) → b ≡ 0 → cut (b ∷ t) ≡ []
unfolding cut
cut_zero zero t e = refl
cut_zero (suc b) t e = absurd (omega (arith, e))

cut_byte : (b : ℕ) (t : Bytes) → (b ≡ 0 → ⊥) → cut (b ∷ t) ≡ cons_trimmed b (cut t)
unfolding cut
cut_byte zero t n = absurd (n refl)
cut_byte (suc b) t n = refl

-- from a place on: nothing is left where a zero is next, or no byte
pub cut_stops : (i : ℕ) (t : Bytes) → get_or t i 0 ≡ 0 → cut (drop i t) ≡ []
cut_stops zero [] e = cut_nothing
cut_stops (suc i) [] e = cut_nothing
cut_stops zero (b ∷ t) e = cut_zero b t e
cut_stops (suc i) (b ∷ t) e = cut_stops i t e

goes : (i : ℕ) (t : Bytes) → (get_or t i 0 ≡ 0 → ⊥) → cut (drop i t) ≡ cons_trimmed (get_or t i 0) (cut (drop (suc i) t))
goes zero [] n = absurd (n refl)
goes (suc i) [] n = absurd (n refl)
goes zero (b ∷ t) n = cut_byte b t n
goes (suc i) (b ∷ t) n = goes i t n

-- any other byte stands in front of what is left behind it
pub cut_goes : (i : ℕ) (t : Bytes) → (get_or t i 0 ≡ 0 → ⊥) → cut (drop i t) ≡ cons_trimmed (get_or t i 0) (cut (drop (i + 1) t))
cut_goes i t n = rw add-one (goes i t n)

-- ---- its length

length-cons_if : (x : Bool) (b : ℕ) → length (cons_if x b []) ≤ 1
unfolding cons_if
length-cons_if true b = omega arith
length-cons_if false b = omega arith

length-cons_trimmed : (b : ℕ) (t : Bytes) → length (cons_trimmed b t) ≤ suc (length t)
length-cons_trimmed b [] = length-cons_if (not (eqb b 32)) b
length-cons_trimmed b (c ∷ cs) = omega arith

pub length_cut : (t : Bytes) → length (cut t) ≤ length t
unfolding cut
length_cut [] = omega arith
length_cut (zero ∷ bs) = omega arith
length_cut (suc b ∷ bs) = omega (arith, length-cons_trimmed (suc b) (cut bs), length_cut bs)

front_cons_if : (x : Bool) (b : ℕ) (t : Bytes) → take (length (cons_if x b [])) (b ∷ t) ≡ cons_if x b []
unfolding cons_if
front_cons_if true b t = refl
front_cons_if false b t = refl

front_cons_trimmed : (b : ℕ) (t u : Bytes) → take (length u) t ≡ u → take (length (cons_trimmed b u)) (b ∷ t) ≡ cons_trimmed b u
front_cons_trimmed b t [] e = front_cons_if (not (eqb b 32)) b t
front_cons_trimmed b t (c ∷ cs) e = ap (λ (r : Bytes). b ∷ r) e

-- a cut is a front part of its text
pub cut_front : (t : Bytes) → part 0 (length (cut t)) t ≡ cut t
unfolding cut part
cut_front [] = refl
cut_front (zero ∷ bs) = refl
cut_front (suc b ∷ bs) = front_cons_trimmed (suc b) bs (cut bs) (cut_front bs)

-- ---- clean texts: those that are cuts

-- no zero is in it, and no space at its end
abbrev pub Clean : Bytes → Type 0
Clean [] = Unit {0}
Clean (b ∷ []) = (b ≡ 0 → ⊥) × (b ≡ 32 → ⊥)
Clean (b ∷ c ∷ cs) = (b ≡ 0 → ⊥) × Clean (c ∷ cs)

clean_cons_if : (b : ℕ) (x : Bool) → eqb b 32 ≡ x → (b ≡ 0 → ⊥) → Clean (cons_if (not x) b [])
unfolding cons_if
clean_cons_if b true e n = tt
clean_cons_if b false e n = (n, λ k. subst T e (subst (λ (c : ℕ). T (eqb c 32)) (sym k) (eqb_refl 32)))

clean_cons_trimmed : (b : ℕ) (t : Bytes) → (b ≡ 0 → ⊥) → Clean t → Clean (cons_trimmed b t)
clean_cons_trimmed b [] n h = clean_cons_if b (eqb b 32) refl n
clean_cons_trimmed b (c ∷ cs) n h = (n, h)

-- a cut is clean
pub clean_cut : (t : Bytes) → Clean (cut t)
unfolding cut
clean_cut [] = tt
clean_cut (zero ∷ bs) = tt
clean_cut (suc b ∷ bs) = clean_cons_trimmed (suc b) (cut bs) (λ e. absurd (omega (arith, e))) (clean_cut bs)

-- a clean text is found again in front of a text of which nothing is left
pub cut_clean : (t u : Bytes) → Clean t → cut u ≡ [] → cut (t ++ u) ≡ t
cut_clean [] u h e = e
cut_clean (b ∷ []) u h e = cut_byte b u h.0 ∙ ap (cons_trimmed b) e ∙ other_stays b [] h.1
cut_clean (b ∷ c ∷ cs) u h e = cut_byte b (c ∷ cs ++ u) h.0 ∙ ap (cons_trimmed b) (cut_clean (c ∷ cs) u h.1 e)

-- and is its own cut
pub cut_itself : (t : Bytes) → Clean t → cut t ≡ t
cut_itself t h = ap cut (sym (append-nil t)) ∙ cut_clean t [] h cut_nothing

-- neither a zero nor a space stands in the text
abbrev pub solid : Bytes → Bool
solid [] = true
solid (b ∷ bs) = ltb 32 b && solid bs

clean_solid : (t : Bytes) → T (solid t) → Clean t
clean_solid [] h = tt
clean_solid (b ∷ []) h = let l : 32 < b = ltb→lt 32 b (and_parts (ltb 32 b) true h).0 in (λ e. absurd (omega arith), λ e. absurd (omega arith))
clean_solid (b ∷ c ∷ cs) h =
    let l : 32 < b = ltb→lt 32 b (and_parts (ltb 32 b) (solid (c ∷ cs)) h).0 in
    (λ e. absurd (omega arith), clean_solid (c ∷ cs) (and_parts (ltb 32 b) (solid (c ∷ cs)) h).1)

-- such a text is its own cut
pub cut_whole : (t : Bytes) → T (solid t) → cut t ≡ t
cut_whole t h = cut_itself t (clean_solid t h)

cut-zeros : (k : ℕ) → cut (zeros k) ≡ []
cut-zeros zero = cut_nothing
cut-zeros (suc k) = cut_zero 0 (zeros k) refl

-- nothing is left of spaces with nothing behind them, or a zero
pub cut_spaces : (k : ℕ) (t : Bytes) → get_or t 0 0 ≡ 0 → cut (replicate k 32 ++ t) ≡ []
cut_spaces zero t e = cut_stops 0 t e
cut_spaces (suc k) t e =
    cut_byte 32 (replicate k 32 ++ t) (λ z. absurd (omega (arith, z))) ∙ ap (cons_trimmed 32) (cut_spaces k t e) ∙ space_goes 32 refl

-- nor of zeros and spaces
pub cut_blank : (t : Bytes) → All (λ b. (b ≡ 0) ⊎ (b ≡ 32)) t → cut t ≡ []
cut_blank [] h = cut_nothing
cut_blank (b ∷ t) (inl e, h) = cut_zero b t e
cut_blank (b ∷ t) (inr e, h) =
    cut_byte b t (λ z. absurd (omega (arith, e, z))) ∙ ap (cons_trimmed b) (cut_blank t h) ∙ space_goes b e

-- ---- what a cut leaves behind it

-- t is u, then spaces, then nothing or a zero and whatever follows it
pub record Left (t u : Bytes) : Type 0 where
  pub spaces : ℕ
  pub rest : Bytes
  pub whole : t ≡ u ++ (replicate spaces 32 ++ rest)
  pub zero_first : get_or rest 0 0 ≡ 0

left_cons_if : (b : ℕ) (t : Bytes) (x : Bool) → eqb b 32 ≡ x → Left t [] → Left (b ∷ t) (cons_if (not x) b [])
unfolding cons_if
left_cons_if b t true e l =
    record {
      spaces = suc l.spaces;
      rest = l.rest;
      whole = ap₂ {C = Bytes} (λ (c : ℕ) (r : Bytes). c ∷ r) (eqb→eq b 32 (subst T (sym e) tt)) l.whole;
      zero_first = l.zero_first;
    }
left_cons_if b t false e l = record { spaces = l.spaces; rest = l.rest; whole = ap (λ (r : Bytes). b ∷ r) l.whole; zero_first = l.zero_first }

left_cons_trimmed : (b : ℕ) (t u : Bytes) → Left t u → Left (b ∷ t) (cons_trimmed b u)
left_cons_trimmed b t [] l = left_cons_if b t (eqb b 32) refl l
left_cons_trimmed b t (c ∷ cs) l =
    record { spaces = l.spaces; rest = l.rest; whole = ap (λ (r : Bytes). b ∷ r) l.whole; zero_first = l.zero_first }

pub left_by_cut : (t : Bytes) → Left t (cut t)
unfolding cut
left_by_cut [] = record { spaces = 0; rest = []; whole = refl; zero_first = refl }
left_by_cut (zero ∷ bs) = record { spaces = 0; rest = zero ∷ bs; whole = refl; zero_first = refl }
left_by_cut (suc b ∷ bs) = left_cons_trimmed (suc b) bs (cut bs) (left_by_cut bs)

-- ---- a text in a field

pub length-padded : (w : ℕ) (t : Bytes) → length t ≤ w → length (padded w t) ≡ w
unfolding padded
length-padded w t h = simp (length-append, length-replicate) (omega arith)

-- a cut that is padded with zeros is read back
pub cut-padded : (w : ℕ) (t : Bytes) → cut (padded w (cut t)) ≡ cut t
unfolding padded
cut-padded w t = cut_clean (cut t) (zeros (w - length (cut t))) (clean_cut t) (cut-zeros (w - length (cut t)))

-- the cut of a field is held
pub held : (at w : ℕ) (s : Bytes) → Held w (cut (part at w s))
held at w s =
    record {
      short = omega (arith, length_cut (part at w s), length-part-le at w s);
      back = cut-padded w (part at w s);
    }
