-- Laws of a room into which fields are written one behind another.
-- Assumes nothing.
use mathlib.Core.Path.{◌≡◌, sym, ◌∙◌}
use Prim.Native.Nat.{ℕ, ◌+◌}
use mathlib.Core.List.{List, [], ◌∷◌, append-nil}
use lib.ListN.{length}
use lib.Seq.{sets}
use Rattle.fields.specs.Bytes.{Bytes, join}
use Rattle.fields.proofs.StoreLaws.{sets-append}

-- a field of w bytes, and the others behind it
pub then_more : (d e r : Bytes) (at w next : ℕ) (a b : Bytes) (fs : List Bytes) → e ≡ sets d at a → a ≡ b → length b ≡ w → next ≡ at + w
    → r ≡ sets e next (join fs) → r ≡ sets d at (join (b ∷ fs))
unfolding join
then_more d e r at w next a b fs s same wide n more =
    more ∙ rw (s, same, n, ← wide) (sym (sets-append d at b (join fs)))

-- a field alone
pub alone : (b : Bytes) → b ≡ join (b ∷ [])
unfolding join
alone b = sym (append-nil b)
