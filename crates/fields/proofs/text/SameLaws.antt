-- Laws of two cuts that are compared byte by byte, and of what is left of one from a place on.
-- Assumes nothing.
use mathlib.Core.Path.{◌≡◌, refl, sym, ◌∙◌}
use mathlib.Core.Bool.{Bool, true, false, not, ◌&&◌}
use Prim.Native.Nat.{ℕ, zero, suc, ◌+◌}
use native.Mathlib.Omega.{arith}
use mathlib.Core.List.{[], ◌∷◌}
use borrow.Author.Tests.{eq-eqb, ne_eqb}
use lib.Dec.{eqb}
use lib.ListN.{drop, get_or}
use Rattle.fields.specs.Bytes.{Bytes, same}
use Rattle.fields.specs.Lists.{cons_if}
use Rattle.fields.specs.Text.{cons_trimmed, cut}
use Rattle.fields.proofs.ByteLaws.{and-false, same_self}
use Rattle.fields.proofs.TextLaws.{space_goes, other_stays, cut_stops, cut_goes}

-- ---- whether anything is left

pub none_left : (i : ℕ) (t : Bytes) → get_or t i 0 ≡ 0 → same (cut (drop i t)) [] ≡ true
unfolding same
none_left i t z = rw (cut_stops i t z) refl

space_alone : (b : ℕ) (t : Bytes) → b ≡ 32 → same (cons_trimmed b t) [] ≡ same t []
unfolding same
space_alone b [] s = rw (space_goes b s) refl
space_alone b (c ∷ cs) s = refl

-- a space is something only if more is
pub more_left : (i : ℕ) (t : Bytes) → get_or t i 0 ≡ 32 → same (cut (drop i t)) [] ≡ same (cut (drop (i + 1) t)) []
more_left i t s =
    rw (cut_goes i t (λ z. absurd (omega (arith, s, z)))) (space_alone (get_or t i 0) (cut (drop (i + 1) t)) s)

pub some_left : (i : ℕ) (t : Bytes) → (get_or t i 0 ≡ 0 → ⊥) → (get_or t i 0 ≡ 32 → ⊥) → same (cut (drop i t)) [] ≡ false
unfolding same
some_left i t z n = rw (cut_goes i t z, other_stays (get_or t i 0) (cut (drop (i + 1) t)) n) refl

-- ---- one byte of each of two texts

short_front : (b : ℕ) (x : Bool) (d : ℕ) (ds : Bytes) → same (cons_if x b []) (b ∷ d ∷ ds) ≡ false
unfolding same cons_if
short_front b true d ds = and-false (eqb b b)
short_front b false d ds = refl

long_front : (b : ℕ) (x : Bool) (c : ℕ) (cs : Bytes) → same (b ∷ c ∷ cs) (cons_if x b []) ≡ false
unfolding same cons_if
long_front b true c cs = and-false (eqb b b)
long_front b false c cs = refl

-- the same byte in front of both
same_byte : (b : ℕ) (t u : Bytes) → same (cons_trimmed b t) (cons_trimmed b u) ≡ same t u
unfolding same
same_byte b [] [] = same_self (cons_trimmed b [])
same_byte b [] (d ∷ ds) = short_front b (not (eqb b 32)) d ds
same_byte b (c ∷ cs) [] = long_front b (not (eqb b 32)) c cs
same_byte b (c ∷ cs) (d ∷ ds) = rw (eq-eqb b b refl) refl

pub alike_goes : (i : ℕ) (t u : Bytes) → get_or t i 0 ≡ get_or u i 0 → (get_or t i 0 ≡ 0 → ⊥)
    → same (cut (drop i t)) (cut (drop i u)) ≡ same (cut (drop (i + 1) t)) (cut (drop (i + 1) u))
alike_goes i t u e n =
    rw (cut_goes i t n, cut_goes i u (λ z. n (e ∙ z)), ← e) (same_byte (get_or t i 0) (cut (drop (i + 1) t)) (cut (drop (i + 1) u)))

turned : (t : Bytes) → same [] t ≡ same t []
unfolding same
turned [] = refl
turned (c ∷ cs) = refl

-- nothing is left of the first
pub alike_stops : (i : ℕ) (t u : Bytes) → get_or t i 0 ≡ 0 → same (cut (drop i t)) (cut (drop i u)) ≡ same (cut (drop i u)) []
alike_stops i t u z = rw (cut_stops i t z) (turned (cut (drop i u)))

-- what is left, if anything, begins with b
abbrev Begins : ℕ → Bytes → Type 0
Begins b [] = Unit {0}
Begins b (c ∷ cs) = c ≡ b

begins_cons_if : (b : ℕ) (x : Bool) → Begins b (cons_if x b [])
unfolding cons_if
begins_cons_if b true = refl
begins_cons_if b false = tt

begins_trimmed : (b : ℕ) (t : Bytes) → Begins b (cons_trimmed b t)
begins_trimmed b [] = begins_cons_if b (not (eqb b 32))
begins_trimmed b (c ∷ cs) = refl

begins : (i : ℕ) (t : Bytes) (b : ℕ) → get_or t i 0 ≡ b → Begins b (cut (drop i t))
begins i t zero e = rw (cut_stops i t e) tt
begins i t (suc b) e =
    rw (cut_goes i t (λ z. absurd (omega (arith, e, z))), e) (begins_trimmed (suc b) (cut (drop (i + 1) t)))

other_byte : (b d : ℕ) (t u : Bytes) → (b ≡ d → ⊥) → Begins b t → Begins d u → same t u ≡ same t [] && same u []
unfolding same
other_byte b d [] [] n h k = refl
other_byte b d [] (y ∷ ys) n h k = refl
other_byte b d (x ∷ xs) [] n h k = refl
other_byte b d (x ∷ xs) (y ∷ ys) n h k = rw (ne_eqb x y (λ e. n (sym h ∙ e ∙ k))) refl

-- other bytes are next: the cuts are the same only where nothing is left of either
pub alike_ends : (i : ℕ) (t u : Bytes) {d : ℕ} → d ≡ get_or u i 0 → (get_or t i 0 ≡ d → ⊥)
    → same (cut (drop i t)) (cut (drop i u)) ≡ same (cut (drop i t)) [] && same (cut (drop i u)) []
alike_ends i t u {d} e n =
    other_byte (get_or t i 0) d (cut (drop i t)) (cut (drop i u)) n (begins i t (get_or t i 0) refl) (begins i u d (sym e))
