-- Laws of the search by halving: how it goes on, whatever the number that bounds its calls, and how many entries it
-- reads.
-- Assumes nothing.
use mathlib.Core.Path.{◌≡◌, refl, sym, ap, ◌∙◌, subst}
use mathlib.Core.Bool.{Bool, true, false}
use mathlib.Core.List.{List, [], ◌∷◌, ◌++◌}
use mathlib.Core.Option.{some}
use Prim.Native.Nat.{ℕ, zero, suc, ◌+◌, ◌-◌, ◌/◌, ◌≤◌, ◌<◌, ◌^◌}
use native.Mathlib.Omega.{arith}
use borrow.Author.Tests.{eqb-true, eqb-false, ltb-true, ltb-false, eq-eqb, ne_eqb, lt-ltb, le-ltb}
use lib.ListN.{length, take, drop, get_or, length-append, length-take, length-drop}
use lib.Seq.{split_at, get_or_at, take_at, drop-append-add}
use lib.Dec.{eqb, ltb}
use Rattle.fields.specs.Bytes.{Bytes}
use Rattle.geokeys.specs.GeoKeys.{key_of}
use Rattle.geokeys.specs.Halving.{middle, before, after, Halved, none_left, one_more, go_on, halving, halve}

-- ---- the halves

pub length_before : (es : List Bytes) → length (before es) ≡ length es / 2
unfolding before
length_before es = length-take (length es / 2) es ∙ omega arith

length-after : (es : List Bytes) → length (after es) ≡ length es - (length es / 2 + 1)
unfolding after
length-after es = length-drop (length es / 2 + 1) es

-- ---- how the search goes on

-- any number that the entries do not exceed bounds the calls as well as another
enough : (n m : ℕ) (es : List Bytes) (key : ℕ) → length es ≤ n → length es ≤ m → halving n es key ≡ halving m es key
unfolding halving
enough zero zero es key h k = refl
enough zero (suc m) [] key h k = refl
enough zero (suc m) (e ∷ es) key h k = absurd (omega arith)
enough (suc n) zero [] key h k = refl
enough (suc n) zero (e ∷ es) key h k = absurd (omega arith)
enough (suc n) (suc m) [] key h k = refl
enough (suc n) (suc m) (e ∷ es) key h k =
    let all : List Bytes = e ∷ es in
    rw (
      enough n m (before all) key (omega (arith, length_before all)) (omega (arith, length_before all)),
      enough n m (after all) key (omega (arith, length-after all)) (omega (arith, length-after all)),
    )

pub halve_none : (key : ℕ) → halve [] key ≡ none_left
unfolding halve halving
halve_none key = refl

-- where entries are left, the middle one is read
halve_step : (es : List Bytes) (key : ℕ) → 0 < length es
    → halve es key
    ≡ go_on (eqb (key_of (middle es)) key) (ltb key (key_of (middle es))) (middle es) (halve (before es) key) (halve (after es) key)
unfolding halve halving
halve_step [] key h = absurd (omega arith)
halve_step (e ∷ es) key h =
    let all : List Bytes = e ∷ es in
    rw (
      enough (length es) (length (before all)) (before all) key (omega (arith, length_before all)) (omega arith),
      enough (length es) (length (after all)) (after all) key (omega (arith, length-after all)) (omega arith),
    )

-- where entries are left: an equal key ends the search
module _ (es : List Bytes) (key : ℕ) (some_left : 0 < length es) where
  pub halve_equal : key_of (middle es) ≡ key → halve es key ≡ record { entry = some (middle es); reads = 1 }
  unfolding go_on
  halve_equal e = halve_step es key some_left ∙ rw (eq-eqb (key_of (middle es)) key e)

  -- a larger one leaves the entries before it
  pub halve_larger : key < key_of (middle es) → halve es key ≡ one_more (halve (before es) key)
  unfolding go_on
  halve_larger h =
      halve_step es key some_left
      ∙ rw (ne_eqb (key_of (middle es)) key (λ e. omega (arith, e, h)), lt-ltb key (key_of (middle es)) h)

  -- a smaller one those after it
  pub halve_smaller : key_of (middle es) < key → halve es key ≡ one_more (halve (after es) key)
  unfolding go_on
  halve_smaller h =
      halve_step es key some_left
      ∙ rw (ne_eqb (key_of (middle es)) key (λ e. omega (arith, e, h)), le-ltb key (key_of (middle es)) (omega arith))

-- what holds of no entries, and of entries if it holds of the half that the search goes on with, holds of all
module _ (key : ℕ) (P : List Bytes → Halved → Type 0) (none_holds : P [] none_left)
    (equal_holds : (es : List Bytes) → 0 < length es → key_of (middle es) ≡ key → P es (record { entry = some (middle es); reads = 1 }))
    (larger_holds : (es : List Bytes) → 0 < length es → key < key_of (middle es) → P (before es) (halve (before es) key) → P es (one_more (halve (before es) key)))
    (smaller_holds : (es : List Bytes) → 0 < length es → key_of (middle es) < key → P (after es) (halve (after es) key) → P es (one_more (halve (after es) key))) where
  by_key : (es : List Bytes) → 0 < length es → P (before es) (halve (before es) key) → P (after es) (halve (after es) key) → P es (halve es key)
  by_key es any earlier later = decide (eqb (key_of (middle es)) key) refl (ltb key (key_of (middle es))) refl
    where
      decide : (b : Bool) → eqb (key_of (middle es)) key ≡ b → (c : Bool) → ltb key (key_of (middle es)) ≡ c → P es (halve es key)
      decide true e c f =
          let same : key_of (middle es) ≡ key = eqb-true (key_of (middle es)) key e in
          subst (P es) (sym (halve_equal es key any same)) (equal_holds es any same)
      decide false e true f =
          let above : key < key_of (middle es) = ltb-true key (key_of (middle es)) f in
          subst (P es) (sym (halve_larger es key any above)) (larger_holds es any above earlier)
      decide false e false f =
          let below : key_of (middle es) < key = omega (arith, ltb-false key (key_of (middle es)) f, eqb-false (key_of (middle es)) key e) in
          subst (P es) (sym (halve_smaller es key any below)) (smaller_holds es any below later)

  within : (n : ℕ) (es : List Bytes) → length es ≤ n → P es (halve es key)
  within zero [] h = subst (P []) (sym (halve_none key)) none_holds
  within zero (e ∷ es) h = absurd (omega arith)
  within (suc n) [] h = subst (P []) (sym (halve_none key)) none_holds
  within (suc n) (e ∷ es) h =
      let all : List Bytes = e ∷ es in
      by_key all (omega arith) (within n (before all) (omega (arith, length_before all))) (within n (after all) (omega (arith, length-after all)))

  pub by_halves : (es : List Bytes) → P es (halve es key)
  by_halves es = within (length es) es (omega arith)

-- ---- the middle entry, and those around it

pub in_three : (es : List Bytes) → 0 < length es → es ≡ before es ++ middle es ∷ after es
unfolding middle before after
in_three es h =
    let e : length es / 2 + 1 ≡ suc (length es / 2) = omega arith in
    rw e (split_at es (length es / 2) [] (omega arith))

pub any_there : (es bs : List Bytes) (e : Bytes) (cs : List Bytes) → es ≡ bs ++ e ∷ cs → 0 < length es
any_there es bs e cs whole = omega (arith, ap length whole, length-append bs (e ∷ cs))

module _ (es bs : List Bytes) (e : Bytes) (cs : List Bytes) (whole : es ≡ bs ++ e ∷ cs) (place : length bs ≡ length es / 2) where
  pub middle_of : middle es ≡ e
  unfolding middle
  middle_of = ap (λ (l : List Bytes). get_or l (length es / 2) []) whole ∙ get_or_at bs e cs [] (length es / 2) place

  pub before_of : before es ≡ bs
  unfolding before
  before_of = ap (take (length es / 2)) whole ∙ take_at bs (e ∷ cs) (length es / 2) place

  pub after_of : after es ≡ cs
  unfolding after
  after_of =
      let n : length es / 2 + 1 ≡ length bs + 1 = omega (arith, place) in
      rw n (ap (drop (length bs + 1)) whole ∙ drop-append-add bs (e ∷ cs) 1)

-- ---- reads

-- at most as many as the number of entries has bits: below 2 ^ k, at most k
pub few_reads : (k : ℕ) (es : List Bytes) (key : ℕ) → length es < 2 ^ k → (halve es key).reads ≤ k
unfolding one_more
few_reads k es key h = by_halves key Few (λ n l. omega arith) equal (λ l any lt. fewer l (before l) any (omega (arith, length_before l))) (λ l any lt. fewer l (after l) any (omega (arith, length-after l))) es k h
  where
    Few : List Bytes → Halved → Type 0
    Few l r = (n : ℕ) → length l < 2 ^ n → r.reads ≤ n

    equal : (l : List Bytes) → 0 < length l → key_of (middle l) ≡ key → Few l (record { entry = some (middle l); reads = 1 })
    equal l any e zero low = absurd (omega arith)
    equal l any e (suc n) low = omega arith

    fewer : (l half : List Bytes) → 0 < length l → length half ≤ length l / 2 → Few half (halve half key) → Few l (one_more (halve half key))
    fewer l half any shorter rest zero low = absurd (omega arith)
    fewer l half any shorter rest (suc n) low = omega (arith, rest n (omega (arith, shorter)))
