-- Laws of the end of a cut, as code looks for it from the front.
-- Assumes nothing.
use mathlib.Core.Path.{◌≡◌, refl}
use Prim.Native.Nat.{ℕ, zero, suc, ◌+◌}
use native.Mathlib.Omega.{arith}
use mathlib.Core.List.{[], ◌∷◌}
use lib.ListN.{length, drop, get_or}
use Rattle.fields.specs.Bytes.{Bytes}
use Rattle.fields.specs.Text.{cons_trimmed, cut}
use Rattle.fields.proofs.TextLaws.{space_goes, other_stays, cut_stops, cut_goes}

-- the cut's length, where it is e for the bytes before place i and those from i on have a cut of n bytes
abbrev pub cut_end : ℕ → ℕ → ℕ → ℕ
cut_end e i zero = e
cut_end e i (suc n) = i + suc n

from_front : (n : ℕ) → n ≡ cut_end 0 0 n
from_front zero = refl
from_front (suc n) = omega arith

pub end_begins : (t : Bytes) → length (cut t) ≡ cut_end 0 0 (length (cut t))
end_begins t = from_front (length (cut t))

-- it is found where a zero is next, or no byte
pub end_stops : (e i : ℕ) (t : Bytes) → get_or t i 0 ≡ 0 → cut_end e i (length (cut (drop i t))) ≡ e
end_stops e i t z = rw (cut_stops i t z) refl

past_space : (e i b : ℕ) (t : Bytes) → b ≡ 32 → cut_end e i (length (cons_trimmed b t)) ≡ cut_end e (i + 1) (length t)
past_space e i b [] s = rw (space_goes b s) refl
past_space e i b (c ∷ cs) s = omega arith

-- a space leaves it where it is
pub end_waits : (e i : ℕ) (t : Bytes) → get_or t i 0 ≡ 32
    → cut_end e i (length (cut (drop i t))) ≡ cut_end e (i + 1) (length (cut (drop (i + 1) t)))
end_waits e i t s =
    rw (cut_goes i t (λ z. absurd (omega (arith, s, z)))) (past_space e i (get_or t i 0) (cut (drop (i + 1) t)) s)

past_other : (e i b : ℕ) (t : Bytes) → (b ≡ 32 → ⊥) → cut_end e i (length (cons_trimmed b t)) ≡ cut_end (i + 1) (i + 1) (length t)
past_other e i b [] n = rw (other_stays b [] n) refl
past_other e i b (c ∷ cs) n = omega arith

-- any other byte moves it behind itself
pub end_moves : (e i : ℕ) (t : Bytes) → (get_or t i 0 ≡ 0 → ⊥) → (get_or t i 0 ≡ 32 → ⊥)
    → cut_end e i (length (cut (drop i t))) ≡ cut_end (i + 1) (i + 1) (length (cut (drop (i + 1) t)))
end_moves e i t z n = rw (cut_goes i t z) (past_other e i (get_or t i 0) (cut (drop (i + 1) t)) n)
