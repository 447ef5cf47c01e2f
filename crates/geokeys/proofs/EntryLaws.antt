-- Laws of a directory's entries: how they are cut, and the first of a key, one by one.
-- Assumes nothing.
use Rattle.std.proofs.Common.{◌≡◌, ℕ, zero, suc, ◌+◌, ◌*◌, ◌/◌, ◌≤◌, ◌<◌, List, [], ◌∷◌, length, get_or, take, drop, refl, sym, ap, add-one, drop-cons, length-drop, arith}
use Rattle.std.proofs.Math.Option.{none, some}
use Rattle.std.specs.Simd.{first_chunks}
use lib.ListN.{drop_of_length-le}
use borrow.Author.Tests.{eq-eqb, ne_eqb}
use Rattle.fields.specs.Bytes.{Bytes, part, num, pieces}
use Rattle.fields.proofs.ByteLaws.{length-pieces}
use Rattle.geokeys.specs.GeoKeys.{key_count, key_of, entry_of, entries}
use Rattle.geokeys.proofs.SearchLaws.{first_here, first_later, first-none}

module _ (key : ℕ) where
  pub entry_here : (e : Bytes) (es : List Bytes) → num (part 0 2 e) ≡ key → entry_of (e ∷ es) key ≡ some e
  unfolding entry_of key_of
  entry_here e es h = first_here _ e es (eq-eqb (num (part 0 2 e)) key h)

  pub entry_later : (e : Bytes) (es : List Bytes) → (num (part 0 2 e) ≡ key → ⊥) → entry_of (e ∷ es) key ≡ entry_of es key
  unfolding entry_of key_of
  entry_later e es h = first_later _ e es (ne_eqb (num (part 0 2 e)) key h)

  pub entry_none : entry_of [] key ≡ none
  unfolding entry_of
  entry_none = first-none _

-- the entry at an index
module _ (es : List Bytes) (i key : ℕ) (left : i < length es) where
  in_two : drop i es ≡ get_or es i [] ∷ drop (i + 1) es
  in_two = rw (add-one, drop-cons es i []) refl

  pub entry_found : num (part 0 2 (get_or es i [])) ≡ key → some (get_or es i []) ≡ entry_of (drop i es) key
  entry_found h = rw in_two (sym (entry_here key _ _ h))

  pub entry_passed : (num (part 0 2 (get_or es i [])) ≡ key → ⊥) → entry_of (drop (i + 1) es) key ≡ entry_of (drop i es) key
  entry_passed h = rw in_two (sym (entry_later key _ _ h))

pub entries_passed : (es : List Bytes) (i key : ℕ) → length es ≤ i → none ≡ entry_of (drop i es) key
entries_passed es i key h = rw (drop_of_length-le) (sym (entry_none key))

-- ---- those that a directory has room for, as it is cut

chunks_are : (n k : ℕ) (s : Bytes) → n ≤ k → take n (first_chunks 8 k s) ≡ pieces n 8 s
unfolding pieces
chunks_are zero k s h = refl
chunks_are (suc n) zero s h = absurd (omega arith)
chunks_are (suc n) (suc k) s h = ap (λ (es : List Bytes). take 8 s ∷ es) (chunks_are n k (drop 8 s) (omega arith))

pub entries_are : (d : Bytes) (n : ℕ) (behind : Bytes) (all : List Bytes) → n ≡ num (part 6 2 d) → behind ≡ drop 8 d → all ≡ first_chunks 8 (length behind / 8) behind
    → 8 + 8 * key_count d ≤ length d → take n all ≡ entries d
unfolding entries key_count
entries_are d n behind all count b cut room =
    rw (cut, b, count)
    (chunks_are (num (part 6 2 d)) (length (drop 8 d) / 8) (drop 8 d) (simp length-drop (omega arith)))

pub length-entries : (d : Bytes) → length (entries d) ≡ num (part 6 2 d)
unfolding entries key_count
length-entries d = length-pieces (num (part 6 2 d)) 8 (drop 8 d)
