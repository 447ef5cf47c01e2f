-- Laws of fields that are stored one after the other.
-- Assumes nothing.
use mathlib.Core.Path.{◌≡◌, refl, sym, ap, ◌∙◌}
use Prim.Native.Nat.{ℕ, ◌+◌}
use mathlib.Core.List.{List, [], ◌∷◌, map}
use lib.ListN.{length, replicate}
use lib.Seq.{sets}
use Rattle.fields.specs.Bytes.{Bytes, bytes_of, join, Fit, numbers_bytes}
use Rattle.fields.proofs.StoreLaws.{sets-append}
use Rattle.fields.proofs.arrays.NumberLaws.{stored_next, stored_none}
use Rattle.release.specs.Heads.{stores}

-- where the fields have these widths, they are stored as one run
pub stores-join : (ws : List ℕ) (fs : List Bytes) (d : Bytes) (at : ℕ) → Fit ws fs → stores ws fs d at ≡ sets d at (join fs)
unfolding join
stores-join [] [] d at h = refl
stores-join [] (f ∷ fs) d at h = absurd h
stores-join (w ∷ ws) [] d at h = absurd h
stores-join (w ∷ ws) (f ∷ fs) d at h =
    stores-join ws fs (sets d at f) (at + w) h.1 ∙ rw (← h.0) (sym (sets-append d at f (join fs)))

-- ---- stores one after the other, each of a field

-- bytes are stored that are the field, and then the rest
pub record Step (d : Bytes) (at : ℕ) (f : Bytes) (Rest : Bytes → Type 0) : Type 0 where
  pub next : Bytes
  pub is : next ≡ sets d at f
  pub rest : Rest next

infixr 3 ◌▸◌
abbrev pub ◌▸◌ : {next d g f : Bytes} {at : ℕ} {Rest : Bytes → Type 0} → (next ≡ sets d at g) × (g ≡ f) → Rest next → Step d at f Rest
◌▸◌ {next = next} {d = d} {at = at} e rest = record { next = next; is = e.0 ∙ ap (sets d at) e.1; rest = rest }

-- what the output is after each store
abbrev pub Steps : List ℕ → List Bytes → Bytes → ℕ → Bytes → Type 0
Steps [] fs d at out = out ≡ d
Steps (w ∷ ws) [] d at out = out ≡ d
Steps (w ∷ ws) (f ∷ fs) d at out = Step d at f (λ next. Steps ws fs next (at + w) out)

pub all_stored : (ws : List ℕ) (fs : List Bytes) (d : Bytes) (at : ℕ) (out : Bytes) → Steps ws fs d at out → out ≡ stores ws fs d at
all_stored [] fs d at out e = e
all_stored (w ∷ ws) [] d at out e = e
all_stored (w ∷ ws) (f ∷ fs) d at out e =
    all_stored ws fs e.next (at + w) out e.rest ∙ ap (λ (n : Bytes). stores ws fs n (at + w)) e.is

-- numbers back to back are fields of one width
pub each_stored : (w : ℕ) (ns : List ℕ) (d : Bytes) (at : ℕ) {next : Bytes} → next ≡ sets d at (numbers_bytes w ns)
    → next ≡ stores (replicate (length ns) w) (map (bytes_of w) ns) d at
each_stored w [] d at e = e ∙ stored_none d at w
each_stored w (n ∷ ns) d at e = each_stored w ns (sets d at (bytes_of w n)) (at + w) (e ∙ stored_next d at w n ns)
