-- The theorems on boxes: which places they keep, points outside all of them, and larger boxes.
-- Assumes nothing.
use mathlib.Core.Path.{◌≡◌, refl, sym, ◌∙◌}
use mathlib.Core.Logic.{◌↔◌}
use Prim.Native.Nat.{ℕ, zero, suc, ◌≤◌}
use native.Mathlib.Omega.{arith}
use borrow.Author.Tests.{eqb-true, eq-eqb}
use mathlib.Core.Bool.{Bool, true, false, not, ◌||◌, and-eq-true_iff}
use mathlib.Core.List.{List, [], ◌∷◌, Memᴰ}
use lib.Dec.{T, eqb, leb→le, le→leb}
use lib.IntN.{ℤ, pos, negsuc}
use lib.Signed.{le_z, ◌≤ℤ◌}
use mir.Syntax.{w32}
use mir.Val.{SFits}
use Rattle.fields.specs.Lists.{All, any_of}
use Rattle.fields.specs.Bytes.{Bytes}
use Rattle.fields.proofs.ListLaws.{kept_pass}
use Rattle.points.specs.Raw.{stored, class_of}
use Rattle.points.proofs.raw.RawLaws.{stored_fits}
use Rattle.lasfile.specs.HeaderFields.{format}
use Rattle.sheet.specs.Sheet.{kind, low, high, on_every_axis, lines}
use Rattle.sheet.specs.Keeping.{in_range, is_box, in_box, contains_point, keeps_class, has_box, keeps_place, keeps_point}
use Rattle.sheet.proofs.class_table.ClassLaws.{keeps_exactly, keeps_to_31, kept_by_place}
use Rattle.publicpart.specs.Public.{carried_of, contents, public_of}
use Rattle.theorems.specs.ReleasedFile.{Holds, points_kept}
use Rattle.theorems.specs.Sheets.{SomeLine}
use Rattle.theorems.specs.Boxes.{Inside, KeptByBoxes, inside_of, NoneOutside, Encloses, Everything, LargerBoxes}
use Rattle.theorems.proofs.ReleasedFile.{complete}
use Rattle.theorems.proofs.Classes.{same_part}
use Rattle.theorems.proofs.sheet.KeepingLaws.{all_three, kept_by_lines, some_says}
use Rattle.theorems.proofs.sheet.OrderLaws.{implied}

-- ---- inside a box

T-is : (b : Bool) → T b → b ≡ true
T-is true t = refl
T-is false t = absurd t

is_T : (b : Bool) → b ≡ true → T b
is_T true e = tt
is_T false e = let z : ◌≡◌ {A = ℕ} 0 1 = cc in absurd (omega arith)

in_range_is : (from to z : ℤ) → (in_range from to z ≡ true) ↔ ((from ≤ℤ z) × (z ≤ℤ to))
unfolding in_range
in_range_is from to z =
    let both = and-eq-true_iff (le_z from z) (le_z z to) in (
      λ e. (record { le = is_T (le_z from z) (both.0 e).0 }, record { le = is_T (le_z z to) (both.0 e).1 }),
      λ h. both.1 (T-is (le_z from z) h.0.le, T-is (le_z z to) h.1.le),
    )

-- what holds of X, Y and Z holds on every axis
pub by_axis : (P : ℕ → Type 0) → P 0 → P 1 → P 2 → (axis : ℕ) → axis ≤ 2 → P axis
by_axis P x y z zero h = x
by_axis P x y z (suc zero) h = y
by_axis P x y z (suc (suc zero)) h = z
by_axis P x y z (suc (suc (suc n))) h = absurd (omega arith)

module _ (l p : Bytes) where
  abbrev on : ℕ → Bool
  on axis = in_range (low axis l) (high axis l) (stored axis p)

  on_is : (axis : ℕ) → (on axis ≡ true) ↔ ((low axis l ≤ℤ stored axis p) × (stored axis p ≤ℤ high axis l))
  on_is axis = in_range_is (low axis l) (high axis l) (stored axis p)

  in_box_is : (in_box l p ≡ true) ↔ Inside l p
  unfolding in_box on_every_axis
  in_box_is = (
    λ e. let t = all_three (on 0) (on 1) (on 2) e in
        by_axis (λ axis. (low axis l ≤ℤ stored axis p) × (stored axis p ≤ℤ high axis l)) ((on_is 0).0 t.0) ((on_is 1).0 t.1) ((on_is 2).0 t.2),
    λ h. rw ((on_is 0).1 (h 0 (omega arith)), (on_is 1).1 (h 1 (omega arith)), (on_is 2).1 (h 2 (omega arith))),
  )

  contains_is : (contains_point l p ≡ true) ↔ ((kind l ≡ 3) × Inside l p)
  unfolding contains_point is_box
  contains_is =
      let both = and-eq-true_iff (eqb (kind l) 3) (in_box l p) in (
        λ e. (eqb-true (kind l) 3 (both.0 e).0, in_box_is.0 (both.0 e).1),
        λ h. both.1 (eq-eqb (kind l) 3 h.0, in_box_is.1 h.1),
      )

-- ---- a place

box_is : (l : Bytes) → (is_box l ≡ true) ↔ (kind l ≡ 3)
unfolding is_box
box_is l = (eqb-true (kind l) 3, eq-eqb (kind l) 3)

has_is : (sheet : Bytes) → (has_box sheet ≡ true) ↔ SomeLine (lines sheet) (λ l. kind l ≡ 3)
unfolding has_box
has_is sheet = some_says is_box (λ l. kind l ≡ 3) box_is (lines sheet)

module _ (sheet p : Bytes) where
  abbrev SomeInside : Type 0
  SomeInside = SomeLine (lines sheet) (λ l. (kind l ≡ 3) × Inside l p)

  inside_is : (any_of (λ l. contains_point l p) (lines sheet) ≡ true) ↔ SomeInside
  inside_is = some_says (λ l. contains_point l p) (λ l. (kind l ≡ 3) × Inside l p) (λ l. contains_is l p) (lines sheet)

  kept_if : (has found : Bool) → (not has || found) ≡ true → has ≡ true → found ≡ true
  kept_if true found e h = e
  kept_if false found e h = let z : ◌≡◌ {A = ℕ} 0 1 = cc in absurd (omega arith)

  if_kept : (has found : Bool) → (has ≡ true → found ≡ true) → (not has || found) ≡ true
  if_kept true found h = h refl
  if_kept false found h = refl

  place_is : (keeps_place sheet p ≡ true) ↔ (SomeLine (lines sheet) (λ l. kind l ≡ 3) → SomeInside)
  unfolding keeps_place
  place_is =
      let found : Bool = any_of (λ l. contains_point l p) (lines sheet) in (
        λ e w. inside_is.0 (kept_if (has_box sheet) found e ((has_is sheet).1 w)),
        λ h. if_kept (has_box sheet) found (λ e. inside_is.1 (h ((has_is sheet).0 e))),
      )

of_all : (P : Bytes → Type 0) (ls : List Bytes) → All P ls → (l : Bytes) → Memᴰ l ls → P l
of_all P [] h l x'' = elim x'' [ ]
of_all P (x ∷ xs) h l (Memᴰ.head q) = rw q h.0
of_all P (x ∷ xs) h l (Memᴰ.tail m) = of_all P xs h.1 l m

no_class : (sheet : Bytes) → All (λ l. kind l ≡ 1 → ⊥) (lines sheet) → (f : ℕ) (p : Bytes) → keeps_point sheet f p ≡ false
no_class sheet none f p =
    implied (keeps_point sheet f p) false
    (λ e.
    let w = (kept_by_lines.class sheet (class_of f p)).0 ((keeps_exactly sheet f p).0 e).0 in
    absurd (of_all (λ l. kind l ≡ 1 → ⊥) (lines sheet) none w.line w.among w.so.0))
    (λ e. let z : ◌≡◌ {A = ℕ} 0 1 = cc in absurd (omega arith))

pub kept_by_boxes : KeptByBoxes
kept_by_boxes = record { inside = contains_is; place = place_is; no_class = no_class }

-- ---- points outside all boxes

none_kept : (sheet : Bytes) (f : ℕ) (ps : List Bytes) → All (λ p. keeps_point sheet f p ≡ true) ps
    → All (λ p. keeps_place sheet p ≡ true) ps
none_kept sheet f [] h = tt
none_kept sheet f (p ∷ ps) h = (((keeps_exactly sheet f p).0 h.0).2, none_kept sheet f ps h.1)

none_in : (sheet f out : Bytes) → Holds sheet f out → All (λ p. keeps_place sheet p ≡ true) (contents out).points
none_in sheet f out h =
    rw h.points (none_kept sheet (format f) (points_kept sheet f) (kept_pass (keeps_point sheet (format f)) (contents f).points))

same_inside : (sheet f g : Bytes) → carried_of f ≡ carried_of g → (contents f).records ≡ (contents g).records
    → inside_of sheet f ≡ inside_of sheet g → public_of sheet f ≡ public_of sheet g
same_inside sheet f g c r w =
    same_part sheet f g c r
    (kept_by_place sheet (format f) (contents f).points ∙ rw w (sym (kept_by_place sheet (format f) (contents g).points)))

pub none_outside : NoneOutside
none_outside =
    record {
      none_goes_out =
          λ sheet f a n q r h.
          let k = complete.holds sheet f a n q r h in
          (none_in sheet f _ k.0, none_in sheet f _ k.1);
      same_public_part = same_inside;
    }

-- ---- larger boxes

le_trans : (a b c : ℤ) → T (le_z a b) → T (le_z b c) → T (le_z a c)
le_trans (pos a) (pos b) (pos c) h k = le→leb a c (omega (arith, leb→le a b h, leb→le b c k))
le_trans (pos a) (pos b) (negsuc c) h k = k
le_trans (pos a) (negsuc b) c h k = absurd h
le_trans (negsuc a) (pos b) (pos c) h k = tt
le_trans (negsuc a) (pos b) (negsuc c) h k = absurd k
le_trans (negsuc a) (negsuc b) (pos c) h k = tt
le_trans (negsuc a) (negsuc b) (negsuc c) h k = le→leb c a (omega (arith, leb→le b a h, leb→le c b k))

trans : (a b c : ℤ) → a ≤ℤ b → b ≤ℤ c → a ≤ℤ c
trans a b c h k = record { le = le_trans a b c h.le k.le }

enclosed : (m l p : Bytes) → Encloses m l → Inside l p → Inside m p
enclosed m l p h i = λ axis a. (
  trans (low axis m) (low axis l) (stored axis p) (h axis a).0 (i axis a).0,
  trans (stored axis p) (high axis l) (high axis m) (i axis a).1 (h axis a).1,
)

larger : (m l p : Bytes) → kind m ≡ 3 → Encloses m l → contains_point l p ≡ true → contains_point m p ≡ true
larger m l p k h e = (contains_is m p).1 (k, enclosed m l p h ((contains_is l p).0 e).1)

larger_keeps : (s t : Bytes) → ((c : ℕ) → keeps_class s c ≡ keeps_class t c) → has_box s ≡ true
    → ((l : Bytes) → Memᴰ l (lines s) → kind l ≡ 3 → SomeLine (lines t) (λ m. (kind m ≡ 3) × Encloses m l))
    → (f : ℕ) (p : Bytes) → keeps_point s f p ≡ true → keeps_point t f p ≡ true
larger_keeps s t class has box f p e =
    let k = (keeps_exactly s f p).0 e in
    let w = (place_is s p).0 k.2 ((has_is s).0 has) in
    let m = box w.line w.among w.so.0 in
    let inside : SomeInside t p = record { line = m.line; among = m.among; so = (m.so.0, enclosed m.line w.line p m.so.1 w.so.1) } in
    (keeps_exactly t f p).1 (sym (class (class_of f p)) ∙ k.0, k.1, (place_is t p).1 (λ _. inside))

-- ---- a box around everything

from_lowest : (z : ℤ) → SFits w32 z → negsuc 2147483647 ≤ℤ z
from_lowest (pos n) f = record { le = tt }
from_lowest (negsuc n) f = record { le = le→leb n 2147483647 (omega (arith, f.sfits)) }

to_highest : (z : ℤ) → SFits w32 z → z ≤ℤ pos 2147483647
to_highest (pos n) f = record { le = le→leb n 2147483647 (omega (arith, f.sfits)) }
to_highest (negsuc n) f = record { le = tt }

all_inside : (l p : Bytes) → Everything l → Inside l p
all_inside l p h = λ axis a.
    rw ((h.1 axis a).0, (h.1 axis a).1) (from_lowest (stored axis p) (stored_fits axis p), to_highest (stored axis p) (stored_fits axis p))

everywhere : (t : Bytes) → SomeLine (lines t) Everything → (p : Bytes) → keeps_place t p ≡ true
everywhere t w p = (place_is t p).1 (λ _. record { line = w.line; among = w.among; so = (w.so.0, all_inside w.line p w.so) })

nowhere : (s : Bytes) → has_box s ≡ false → (p : Bytes) → keeps_place s p ≡ true
unfolding keeps_place
nowhere s e p = rw e

as_none : (s t : Bytes) → ((c : ℕ) → keeps_class s c ≡ keeps_class t c) → has_box s ≡ false → SomeLine (lines t) Everything
    → (f : ℕ) (p : Bytes) → keeps_point s f p ≡ keeps_point t f p
as_none s t class none w = keeps_to_31 s t (λ c _. class c) (λ p. nowhere s none p ∙ sym (everywhere t w p))

pub larger_boxes : LargerBoxes
larger_boxes = record { contains = larger; keeps = larger_keeps; as_none = as_none }
