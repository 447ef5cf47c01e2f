-- Text fields: the cut of a text, a text padded with zeros, and the texts that a field gives back.
-- Assumes nothing.
use Rattle.std.specs.Prelude.{◌≡◌, not, ℕ, zero, suc, ◌-◌, ◌≤◌, [], ◌∷◌, ◌++◌, length, eqb}
use Rattle.fields.specs.Bytes.{Bytes, zeros}
use Rattle.fields.specs.Lists.{cons_if}

-- the bytes before the first zero byte, or all of them if there is none
abbrev pub before_zero : Bytes → Bytes
before_zero [] = []
before_zero (zero ∷ bs) = []
before_zero (suc b ∷ bs) = suc b ∷ before_zero bs

-- a byte in front of a text that is trimmed: a space (0x20) in front of nothing stands at the end, and goes too
abbrev pub cons_trimmed : ℕ → Bytes → Bytes
cons_trimmed b [] = cons_if (not (eqb b 0x20)) b []
cons_trimmed b (c ∷ cs) = b ∷ c ∷ cs

-- a text without the spaces standing at its end
abbrev pub trim : Bytes → Bytes
trim [] = []
trim (b ∷ bs) = cons_trimmed b (trim bs)

-- the "cut" of a text field, its meaning: its bytes before the first zero byte, or all of them if there is none,
-- without the spaces standing at their end
unfoldable pub cut : Bytes → Bytes
cut t = trim (before_zero t)

-- a text in a field of n bytes
unfoldable pub padded : ℕ → Bytes → Bytes
padded n t = t ++ zeros (n - length t)

-- a text that a field of n bytes holds and gives back
pub record Held (n : ℕ) (t : Bytes) : Type 0 where
  pub short : length t ≤ n
  pub back : cut (padded n t) ≡ t
