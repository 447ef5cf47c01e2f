-- What is proved of the cut of a text: which bytes it is, and that it stays as it is when it is cut again.
-- Assumes nothing.
use Rattle.std.specs.Prelude.{◌≡◌, ◌↔◌, ◌⊎◌, ℕ, [], ◌∷◌, ◌++◌, get_or, replicate}
use Rattle.fields.specs.Bytes.{Bytes}
use Rattle.fields.specs.Lists.{All}
use Rattle.fields.specs.Text.{cut, padded}

-- a text that can be a cut
pub record Plain (u : Bytes) : Type 0 where
  -- no zero is in it
  pub no_zero : All (λ b. b ≡ 0 → ⊥) u
  -- and no space stands at its end
  pub no_space_last : (v : Bytes) → u ≡ v ++ 0x20 ∷ [] → ⊥

-- a text t and its cut u, in other words than the definition's
pub record IsCut (t u : Bytes) : Type 0 where
  -- t is u, then so many spaces, then a rest
  pub spaces : ℕ
  pub rest : Bytes
  pub whole : t ≡ u ++ (replicate spaces 0x20 ++ rest)
  -- which is nothing, or begins with a zero
  pub zero_first : get_or rest 0 0 ≡ 0
  pub plain : Plain u

pub record Texts : Type 0 where
  -- u is the cut of t exactly if these words say so
  pub is_cut : (t u : Bytes) → (cut t ≡ u) ↔ IsCut t u
  -- to cut what is cut changes nothing
  pub twice : (t : Bytes) → cut (cut t) ≡ cut t
  -- nor does it where zeros are behind it, as in the field of a released file
  pub padded_back : (n : ℕ) (t : Bytes) → cut (padded n (cut t)) ≡ cut t
  -- of a text with no inner zero, which is u and only zeros and spaces w behind it, the cut is u
  pub no_inner_zero : (u w : Bytes) → Plain u → All (λ b. (b ≡ 0) ⊎ (b ≡ 0x20)) w → cut (u ++ w) ≡ u
