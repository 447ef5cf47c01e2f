-- Laws of the points that a sheet keeps: by class, withheld flag and place, by a table over the classification byte,
-- and by their first 20 bytes.
-- Assumes nothing.
use mathlib.Core.Path.{◌≡◌, refl, sym, ◌∙◌}
use mathlib.Core.Logic.{◌↔◌}
use Prim.Native.Nat.{ℕ, ◌≤◌}
use native.Mathlib.Omega.{arith}
use mathlib.Core.Bool.{Bool, true, false, not, ◌&&◌, and-eq-true_iff, and-false, and-true, and_assoc, and_comm}
use mathlib.Core.List.{List}
use lib.ListN.{take}
use Rattle.fields.specs.Lists.{kept}
use Rattle.fields.specs.Bytes.{Bytes, AllBytes}
use Rattle.fields.proofs.ListLaws.{kept_same, kept_both, all_of}
use Rattle.points.specs.Raw.{class_in, withheld_in, class_byte, class_of, withheld_of}
use Rattle.points.proofs.raw.RawLaws.{class_byte_lem, class_small, class_front, withheld_front}
use Rattle.sheet.specs.Keeping.{keeps_class, keeps_place, keeps_point, keeps_byte, TableOf, in_table}
use Rattle.sheet.proofs.PlaceLaws.{place_front}

-- ---- by class, withheld flag and place

not-true : (b : Bool) → (not b ≡ true) ↔ (b ≡ false)
not-true true = (λ e. sym e, λ e. sym e)
not-true false = (λ _. refl, λ _. refl)

module _ (sheet : Bytes) (f : ℕ) (p : Bytes) where
  pub keeps_exactly : (keeps_point sheet f p ≡ true)
      ↔ ((keeps_class sheet (class_of f p) ≡ true) × (withheld_of f p ≡ false) × (keeps_place sheet p ≡ true))
  unfolding keeps_point
  keeps_exactly =
      let both = and-eq-true_iff (keeps_class sheet (class_of f p)) (not (withheld_of f p) && keeps_place sheet p) in
      let rest = and-eq-true_iff (not (withheld_of f p)) (keeps_place sheet p) in
      let out = not-true (withheld_of f p) in (
        λ e. ((both.0 e).0, out.0 (rest.0 (both.0 e).1).0, (rest.0 (both.0 e).1).1),
        λ h. both.1 (h.0, rest.1 (out.1 h.1, h.2)),
      )

  pub keeps_no_withheld : withheld_of f p ≡ true → keeps_point sheet f p ≡ false
  unfolding keeps_point
  keeps_no_withheld e = rw e (and-false (keeps_class sheet (class_of f p)))

pub keeps_alike : (sheet : Bytes) (f : ℕ) (p q : Bytes) → class_of f p ≡ class_of f q → withheld_of f p ≡ withheld_of f q
    → keeps_place sheet p ≡ keeps_place sheet q → keeps_point sheet f p ≡ keeps_point sheet f q
unfolding keeps_point
keeps_alike sheet f p q c w e = rw (c, w, e)

pub keeps_to_31 : (s t : Bytes) → ((c : ℕ) → c ≤ 31 → keeps_class s c ≡ keeps_class t c)
    → ((p : Bytes) → keeps_place s p ≡ keeps_place t p)
    → (f : ℕ) (p : Bytes) → keeps_point s f p ≡ keeps_point t f p
unfolding keeps_point
keeps_to_31 s t h k f p = rw (h (class_of f p) (omega (arith, class_small f p)), k p)

last_first : (a b c : Bool) → (a && (b && c)) ≡ (c && (a && b))
last_first a b c = sym (and_assoc a b c) ∙ and_comm (a && b) c

three_and : (a b c : Bool) → (b && (a && c)) ≡ (a && (b && c))
three_and true b c = refl
three_and false b c = and-false b

-- the kept points are those among the points that are not withheld whose class and place are kept
pub kept_by_class : (sheet : Bytes) (f : ℕ) (ps : List Bytes)
    → kept (keeps_point sheet f) ps
    ≡ kept (λ p. keeps_class sheet (class_of f p) && keeps_place sheet p) (kept (λ p. not (withheld_of f p)) ps)
unfolding keeps_point
kept_by_class sheet f ps =
    kept_same (λ p. keeps_class sheet (class_of f p) && (not (withheld_of f p) && keeps_place sheet p))
    (λ p. not (withheld_of f p) && (keeps_class sheet (class_of f p) && keeps_place sheet p)) ps
    (all_of _ ps (λ p. three_and (not (withheld_of f p)) (keeps_class sheet (class_of f p)) (keeps_place sheet p)))
    ∙ sym (kept_both (λ p. keeps_class sheet (class_of f p) && keeps_place sheet p) (λ p. not (withheld_of f p)) ps)

-- those among the points whose place is kept whose class is kept and that are not withheld
pub kept_by_place : (sheet : Bytes) (f : ℕ) (ps : List Bytes)
    → kept (keeps_point sheet f) ps
    ≡ kept (λ p. keeps_class sheet (class_of f p) && not (withheld_of f p)) (kept (keeps_place sheet) ps)
unfolding keeps_point
kept_by_place sheet f ps =
    kept_same (λ p. keeps_class sheet (class_of f p) && (not (withheld_of f p) && keeps_place sheet p))
    (λ p. keeps_place sheet p && (keeps_class sheet (class_of f p) && not (withheld_of f p))) ps
    (all_of _ ps (λ p. last_first (keeps_class sheet (class_of f p)) (not (withheld_of f p)) (keeps_place sheet p)))
    ∙ sym (kept_both (λ p. keeps_class sheet (class_of f p) && not (withheld_of f p)) (keeps_place sheet) ps)

-- ---- by a table

module _ (sheet : Bytes) (f b : ℕ) where
  pub byte_withheld : withheld_in f b ≡ true → keeps_byte sheet f b ≡ false
  unfolding keeps_byte
  byte_withheld e = rw e (and-false (keeps_class sheet (class_in f b)))

  pub byte_of_class : withheld_in f b ≡ false → keeps_byte sheet f b ≡ keeps_class sheet (class_in f b)
  unfolding keeps_byte
  byte_of_class e = rw e (and-true (keeps_class sheet (class_in f b)))

-- wherever the point lies
pub table_keeps : (sheet : Bytes) (f : ℕ) (table : List Bool) → TableOf sheet f table → (p : Bytes) → AllBytes p
    → (in_table table f p && keeps_place sheet p) ≡ keeps_point sheet f p
unfolding in_table keeps_point keeps_byte class_of withheld_of
table_keeps sheet f table right p h =
    rw (right (class_byte f p) (class_byte_lem f p h))
    (and_assoc (keeps_class sheet (class_in f (class_byte f p))) (not (withheld_in f (class_byte f p))) (keeps_place sheet p))

-- ---- by the first 20 bytes

pub keeps_front : (sheet : Bytes) (f n : ℕ) (p : Bytes) → 20 ≤ n → keeps_point sheet f (take n p) ≡ keeps_point sheet f p
unfolding keeps_point
keeps_front sheet f n p h = rw (class_front f n p h, withheld_front f n p h, place_front sheet n p h)
