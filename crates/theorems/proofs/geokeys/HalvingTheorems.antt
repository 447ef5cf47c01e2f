-- The search by halving goes as it says, reads few entries, and comes to the first entry of a key where keys rise.
-- Assumes nothing.
use mathlib.Core.Path.{◌≡◌, sym, ap, ◌∙◌, subst}
use Prim.Native.Nat.{ℕ, zero, suc, ◌+◌, ◌≤◌, ◌<◌, ◌^◌}
use native.Mathlib.Omega.{arith}
use borrow.Author.Tests.{eq-eqb, ne_eqb}
use mathlib.Core.Bool.{Bool, false}
use mathlib.Core.List.{List, [], ◌∷◌, ◌++◌, append_assoc}
use mathlib.Core.Option.{Option, none, some}
use lib.Dec.{eqb}
use lib.ListN.{length}
use lib.Pow.{pow_pos}
use Rattle.fields.specs.Bytes.{Bytes}
use Rattle.fields.specs.Lists.{All}
use Rattle.geokeys.specs.GeoKeys.{first, key_of, entry_of, answer_if, from_entry, searched, search_verdict, lookup}
use Rattle.geokeys.specs.Halving.{middle, before, after, Halved, one_more, halve, lookup_by_halving}
use Rattle.geokeys.proofs.SearchLaws.{first_here, first_later, first-none, first_past, first_before, answer_fails}
use Rattle.geokeys.proofs.HalvingLaws.{halve_none, halve_equal, halve_larger, halve_smaller, by_halves, in_three, any_there, middle_of, before_of, after_of, length_before, few_reads}
use Rattle.geokeys.proofs.KeyReadLaws.{few_searched, at_most_13, read_fails, found_is}
use Rattle.capi.specs.RecordAnswers.{geokey_numbers, read_numbers}
use Rattle.capi.specs.Interface.{las_geokey_find, las_geokey_halve}
use Rattle.theorems.specs.Halving.{Middle, Halves, ReadsFew, Rising, HasKey, AsThePlainLookup}

-- ---- the search, in four equations

module _ (es bs : List Bytes) (e : Bytes) (cs : List Bytes) (key : ℕ) (m : Middle es bs e cs) where
  any : 0 < length es
  any = any_there es bs e cs m.whole

  key_is : key_of (middle es) ≡ key_of e
  key_is = ap key_of (middle_of es bs e cs m.whole m.place)

  equal : key_of e ≡ key → halve es key ≡ record { entry = some e; reads = 1 }
  equal h = halve_equal es key any (key_is ∙ h) ∙ rw (middle_of es bs e cs m.whole m.place)

  larger : key < key_of e → halve es key ≡ record { entry = (halve bs key).entry; reads = (halve bs key).reads + 1 }
  unfolding one_more
  larger h = halve_larger es key any (rw key_is h) ∙ ap (λ (l : List Bytes). one_more (halve l key)) (before_of es bs e cs m.whole m.place)

  smaller : key_of e < key → halve es key ≡ record { entry = (halve cs key).entry; reads = (halve cs key).reads + 1 }
  unfolding one_more
  smaller h = halve_smaller es key any (rw key_is h) ∙ ap (λ (l : List Bytes). one_more (halve l key)) (after_of es bs e cs m.whole m.place)

pub halves : Halves
halves = record { none_left = halve_none; equal = equal; larger = larger; smaller = smaller }

-- ---- what holds of all entries, around the middle one

all_parts : (P : Bytes → Type 0) (bs : List Bytes) (e : Bytes) (cs : List Bytes) → All P (bs ++ e ∷ cs) → All P bs × (P e × All P cs)
all_parts P [] e cs h = (tt, h)
all_parts P (b ∷ bs) e cs h = let parts = all_parts P bs e cs h.1 in ((h.0, parts.0), parts.1)

module _ (P : Bytes → Type 0) (es : List Bytes) (some_left : 0 < length es) (h : All P es) where
  parts : All P (before es) × (P (middle es) × All P (after es))
  parts = all_parts P (before es) (middle es) (after es) (subst (All P) (in_three es some_left) h)

-- ---- as many reads as the number of entries has bits, where the key is below all

as_many : (es : List Bytes) (key k : ℕ) → 2 ^ k ≤ length es → All (λ e. key < key_of e) es → k < (halve es key).reads
unfolding one_more
as_many es key k h below = by_halves key Many none_there equal_there larger_there smaller_there es k h below
  where
    Below : List Bytes → Type 0
    Below l = All (λ e. key < key_of e) l

    Many : List Bytes → Halved → Type 0
    Many l r = (n : ℕ) → 2 ^ n ≤ length l → Below l → n < r.reads

    none_there : Many [] (record { entry = none; reads = 0 })
    none_there n low b = absurd (omega (arith, pow_pos n))

    equal_there : (l : List Bytes) → 0 < length l → key_of (middle l) ≡ key → Many l (record { entry = some (middle l); reads = 1 })
    equal_there l any e n low b = absurd (omega (arith, e, (parts (λ x. key < key_of x) l any b).1.0))

    larger_there : (l : List Bytes) → 0 < length l → key < key_of (middle l) → Many (before l) (halve (before l) key) → Many l (one_more (halve (before l) key))
    larger_there l any lt rest zero low b = omega arith
    larger_there l any lt rest (suc n) low b =
        omega (arith, rest n (omega (arith, length_before l)) (parts (λ x. key < key_of x) l any b).0)

    smaller_there : (l : List Bytes) → 0 < length l → key_of (middle l) < key → Many (after l) (halve (after l) key) → Many l (one_more (halve (after l) key))
    smaller_there l any lt rest n low b = absurd (omega (arith, lt, (parts (λ x. key < key_of x) l any b).1.0))

pub reads_few : ReadsFew
unfolding las_geokey_halve read_numbers
reads_few =
    record {
      at_most = λ es key k. few_reads k es key;
      as_many = as_many;
      keys = few_searched;
      at_most_13 = λ file key bytes. at_most_13 file bytes key;
    }

-- ---- where keys rise

all_to : (P Q : Bytes → Type 0) (es : List Bytes) → ((e : Bytes) → P e → Q e) → All P es → All Q es
all_to P Q [] f h = tt
all_to P Q (e ∷ es) f h = (f e h.0, all_to P Q es f h.1)

pub record RisingParts (bs : List Bytes) (e : Bytes) (cs : List Bytes) : Type 0 where
  pub rising_before : Rising bs
  pub below : All (λ b. key_of b < key_of e) bs
  pub above : All (λ c. key_of e < key_of c) cs
  pub rising_after : Rising cs

rising_parts : (bs : List Bytes) (e : Bytes) (cs : List Bytes) → Rising (bs ++ e ∷ cs) → RisingParts bs e cs
rising_parts [] e cs h = record { rising_before = tt; below = tt; above = h.0; rising_after = h.1 }
rising_parts (b ∷ bs) e cs h =
    let later = rising_parts bs e cs h.1 in
    let mine = all_parts (λ f. key_of b < key_of f) bs e cs h.0 in
    record {
      rising_before = (mine.0, later.rising_before);
      below = (mine.1.0, later.below);
      above = later.above;
      rising_after = later.rising_after;
    }

module _ (key : ℕ) where
  abbrev has : Bytes → Bool
  has e = eqb (key_of e) key

  other : (e : Bytes) → (key_of e ≡ key → ⊥) → has e ≡ false
  other e h = ne_eqb (key_of e) key h

  abbrev Agrees : List Bytes → Halved → Type 0
  Agrees l r = Rising l → r.entry ≡ first has l

  module _ (l : List Bytes) (some_left : 0 < length l) where
    abbrev m : Bytes
    m = middle l

    around : Rising l → RisingParts (before l) m (after l)
    around h = rising_parts (before l) m (after l) (subst Rising (in_three l some_left) h)

    in_two : first has l ≡ first has (before l ++ m ∷ after l)
    in_two = ap (first has) (in_three l some_left)

    agrees_equal : key_of m ≡ key → Agrees l (record { entry = some m; reads = 1 })
    agrees_equal e h =
        let past = all_to (λ b. key_of b < key_of m) (λ b. has b ≡ false) (before l) (λ b lt. other b (λ f. omega (arith, lt, e, f))) (around h).below in
        sym (in_two ∙ first_past has (before l) (m ∷ after l) past ∙ first_here has m (after l) (eq-eqb (key_of m) key e))

    agrees_larger : key < key_of m → Agrees (before l) (halve (before l) key) → Agrees l (one_more (halve (before l) key))
    unfolding one_more
    agrees_larger lt rest h =
        let later = all_to (λ c. key_of m < key_of c) (λ c. has c ≡ false) (after l) (λ c gt. other c (λ f. omega (arith, lt, gt, f))) (around h).above in
        rest (around h).rising_before
        ∙ sym (in_two ∙ first_before has (before l) (m ∷ after l) (other m (λ f. omega (arith, lt, f)), later))

    agrees_smaller : key_of m < key → Agrees (after l) (halve (after l) key) → Agrees l (one_more (halve (after l) key))
    unfolding one_more
    agrees_smaller lt rest h =
        let past = all_to (λ b. key_of b < key_of m) (λ b. has b ≡ false) (before l) (λ b gt. other b (λ f. omega (arith, lt, gt, f))) (around h).below in
        rest (around h).rising_after
        ∙ sym (in_two ∙ first_past has (before l) (m ∷ after l) past ∙ first_later has m (after l) (other m (λ f. omega (arith, lt, f))))

  entries_agree : (es : List Bytes) → Rising es → (halve es key).entry ≡ entry_of es key
  unfolding entry_of
  entries_agree es h = by_halves key Agrees (λ r. sym (first-none has)) agrees_equal agrees_larger agrees_smaller es h

agrees : (file : Bytes) (key : ℕ) → Rising (searched file) → (lookup_by_halving file key).found ≡ lookup file key
unfolding lookup
agrees file key h =
    found_is file key ∙ ap (λ (o : Option Bytes). answer_if (search_verdict file) (from_entry file o)) (entries_agree key (searched file) h)

-- ---- in any directory

module _ (key : ℕ) (e : Bytes) where
  abbrev Finds : List Bytes → Halved → Type 0
  Finds l r = r.entry ≡ some e → HasKey l key e

  module _ (l : List Bytes) (some_left : 0 < length l) where
    finds_equal : key_of (middle l) ≡ key → Finds l (record { entry = some (middle l); reads = 1 })
    finds_equal k f =
        let same : middle l ≡ e = cc in
        record { before = before l; after = after l; whole = in_three l some_left ∙ rw same; own = ap key_of (sym same) ∙ k }

    finds_larger : key < key_of (middle l) → Finds (before l) (halve (before l) key) → Finds l (one_more (halve (before l) key))
    unfolding one_more
    finds_larger lt rest f =
        let there = rest f in
        record {
          before = there.before;
          after = there.after ++ middle l ∷ after l;
          whole = in_three l some_left ∙ ap (λ (x : List Bytes). x ++ middle l ∷ after l) there.whole ∙ append_assoc there.before (e ∷ there.after) (middle l ∷ after l);
          own = there.own;
        }

    finds_smaller : key_of (middle l) < key → Finds (after l) (halve (after l) key) → Finds l (one_more (halve (after l) key))
    unfolding one_more
    finds_smaller lt rest f =
        let there = rest f in
        record {
          before = before l ++ middle l ∷ there.before;
          after = there.after;
          whole = in_three l some_left ∙ ap (λ (x : List Bytes). before l ++ middle l ∷ x) there.whole ∙ sym (append_assoc (before l) (middle l ∷ there.before) (e ∷ there.after));
          own = there.own;
        }

  finds_the_key : (es : List Bytes) → (halve es key).entry ≡ some e → HasKey es key e
  finds_the_key es f = by_halves key Finds (λ g. let z : ◌≡◌ {A = ℕ} 0 1 = cc in absurd (omega arith)) finds_equal finds_larger finds_smaller es f

pub as_the_plain_lookup : AsThePlainLookup
unfolding lookup lookup_by_halving las_geokey_find las_geokey_halve read_numbers
as_the_plain_lookup =
    record {
      entries_agree = λ es key h. entries_agree key es h;
      agrees = agrees;
      numbers_agree = λ file key h. ap geokey_numbers (agrees file key h);
      before_search = λ file key n e. (answer_fails _ _ n e, read_fails _ _ n e);
      finds_the_key = λ es key e f. finds_the_key key e es f;
    }
