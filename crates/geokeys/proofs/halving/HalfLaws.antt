-- The entries that are left of a search by halving, where the middle one has been read.
-- Assumes nothing.
use mathlib.Core.Path.{◌≡◌, refl, sym, ap, ◌∙◌}
use mathlib.Core.List.{List, []}
use Prim.Native.Nat.{ℕ, ◌+◌, ◌-◌, ◌/◌, ◌≤◌, ◌<◌, ◌^◌}
use native.Mathlib.Omega.{arith}
use Rattle.std.proofs.lemmas.List.{nil_from_length}
use lib.ListN.{length, get_or, take, drop, length-drop}
use lib.Seq.{take_all}
use Rattle.std.specs.Prelude.{Option, Some, None}
use Rattle.std.specs.Borrow.{Bor}
use Rattle.fields.specs.Bytes.{Bytes, part, num}
use Rattle.geokeys.specs.GeoKeys.{key_of}
use Rattle.geokeys.specs.Halving.{middle, before, after, Halved, one_more, halve}
use Rattle.geokeys.specs.Places.{entry_in, halved_in}
use Rattle.geokeys.specs.declared.halving.Search.{Search}
use Rattle.geokeys.proofs.HalvingLaws.{halve_none, halve_equal, halve_larger, halve_smaller, few_reads}

abbrev search : Option (Bor Bytes) → ℕ → Search
search found reads = record { found = found; reads = reads }

-- few entries cannot take many reads
pub reads_fit : (es : List Bytes) (key : ℕ) (r : Search) → length es < 2 ^ 29 → halved_in r ≡ halve es key → r.reads < 32
unfolding halved_in
reads_fit es key r h e =
    let few : (halve es key).reads ≤ 29 = few_reads 29 es key (omega arith) in
    let same : r.reads ≡ (halve es key).reads = ap (λ (h : Halved). h.reads) e in
    omega (arith, few, same)

-- one entry read before what the rest came to
more_read : (r : Search) → halved_in (search r.found (r.reads + 1)) ≡ one_more (halved_in r)
unfolding halved_in one_more
more_read r = refl

module _ (es : List Bytes) (key : ℕ) where
  pub none_there : length es ≡ 0 → halved_in (search None 0) ≡ halve es key
  unfolding halved_in entry_in
  none_there h = rw (nil_from_length es h) (sym (halve_none key))

  -- with the entry at half of them, which is the middle one
  module _ (half : ℕ) (e : Bytes) (is_half : half ≡ length es / 2) (is_middle : e ≡ get_or es half []) (any : 0 < length es) where
    middle_is : middle es ≡ e
    unfolding middle
    middle_is = rw (is_middle, is_half) refl

    key_is : key_of (middle es) ≡ num (part 0 2 e)
    unfolding key_of
    key_is = ap (λ (b : Bytes). num (part 0 2 b)) middle_is

    pub equal_there : (found : Bor Bytes) → found.now ≡ e → num (part 0 2 e) ≡ key → halved_in (search (Some found) 1) ≡ halve es key
    unfolding halved_in entry_in
    equal_there found f h = sym (halve_equal es key any (key_is ∙ h) ∙ rw (middle_is, ← f))

    pub larger_there : (r : Search) (front : List Bytes) → front ≡ take half es → key < num (part 0 2 e) → halved_in r ≡ halve front key
        → halved_in (search r.found (r.reads + 1)) ≡ halve es key
    unfolding before
    larger_there r front f h i = more_read r ∙ ap one_more (i ∙ rw (f, is_half) refl) ∙ sym (halve_larger es key any (rw key_is h))

    pub smaller_there : (r : Search) (back : List Bytes) → back ≡ take (length es - (half + 1)) (drop (half + 1) es) → num (part 0 2 e) < key → halved_in r ≡ halve back key
        → halved_in (search r.found (r.reads + 1)) ≡ halve es key
    unfolding after
    smaller_there r back b h i = more_read r ∙ ap one_more (i ∙ rw (b, take_all (length es - (half + 1)) (drop (half + 1) es) (simp length-drop (omega arith)), is_half) refl) ∙ sym (halve_smaller es key any (rw key_is h))
