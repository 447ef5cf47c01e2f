-- How boxes are marked on an axis, apart from any code: one cell, the cells of a box, and all boxes.
-- Assumes nothing.
use mathlib.Core.Path.{◌≡◌, refl, ◌∙◌}
use Prim.Native.Nat.{ℕ, ◌+◌, ◌^◌, ◌≤◌, ◌<◌}
use native.Mathlib.Omega.{arith}
use mathlib.Core.Bool.{Bool, true, false}
use mathlib.Core.List.{List}
use lib.ListN.{length, get_or, set}
use lib.Seq.{get_or-set_same, get_or-set_other}
use lib.Bits.{bit_or}
use lib.Dec.{eqb}
use lib.IntN.{ℤ, pos}
use borrow.Author.Tests.{eqb-true, eqb-false}
use Rattle.sheet.specs.declared.boxes.Edges.{Edges}
use Rattle.release.specs.declared.box_index.Axis.{Axis}
use Rattle.release.specs.BoxIndex.{cell_on, HasBit, Marked, AxisCovers, Grown, Marks}
use Rattle.release.proofs.box_index.BitLaws.{or_bit, or_bit_r, own_bit}

-- ---- what grows

pub grown_none : (a : Axis) → Grown a a
grown_none a = record { stay = λ j k x. x; begin = refl; bits = refl }

grown_more : (a b c : Axis) → Grown a b → Grown b c → Grown a c
grown_more a b c g h =
    record { stay = λ j k x. h.stay j k (g.stay j k x); begin = h.begin ∙ g.begin; bits = h.bits ∙ g.bits }

-- cells are where they were
cell_stays : (a b : Axis) → Grown a b → (z : ℤ) → cell_on b z ≡ cell_on a z
cell_stays a b g z = rw (g.begin, g.bits)

-- what was marked is marked still
marked_still : (j : ℕ) (low high : ℤ) (a b : Axis) → Grown a b → Marked j low high a → Marked j low high b
marked_still j low high a b g m c from to =
    g.stay j c (m c (rw (cell_stays a b g low) at from) (rw (cell_stays a b g high) at to))

-- ---- one cell

module _ (a : Axis) (k j bit : ℕ) (less : k < 64) (size : length a.cells ≡ 64) (is : bit ≡ 2 ^ j) where
  abbrev cells : List ℕ
  cells = set a.cells k (bit_or (get_or a.cells k 0) bit)

  abbrev with_bit : Axis
  with_bit = record { cells = cells; begin = a.begin; bits = a.bits }

  here : get_or cells k 0 ≡ bit_or (get_or a.cells k 0) bit
  here = get_or-set_same a.cells k (bit_or (get_or a.cells k 0) bit) 0 (omega arith)

  elsewhere : (i : ℕ) → (i ≡ k → ⊥) → get_or cells i 0 ≡ get_or a.cells i 0
  elsewhere i ne = get_or-set_other a.cells k i (bit_or (get_or a.cells k 0) bit) 0 ne

  stays : (i m : ℕ) (b : Bool) → eqb m k ≡ b → HasBit i (get_or a.cells m 0) → HasBit i (get_or cells m 0)
  stays i m true e x =
      let same : m ≡ k = eqb-true m k e in
      rw (same, here) (or_bit i (get_or a.cells k 0) bit (rw same at x))
  stays i m false e x = rw (elsewhere m (eqb-false m k e)) x

  cell_grown : Grown a with_bit
  cell_grown = record { stay = λ i m x. stays i m (eqb m k) refl x; begin = refl; bits = refl }

  cell_has : HasBit j (get_or cells k 0)
  cell_has = rw here (or_bit_r j (get_or a.cells k 0) bit (rw is (own_bit j)))

  -- one more of the cells from one on
  pub mark_next : (first : ℕ) (before : Axis) → Grown before a → ((m : ℕ) → first ≤ m → m < k → HasBit j (get_or a.cells m 0))
      → Grown before with_bit × ((m : ℕ) → first ≤ m → m < k + 1 → HasBit j (get_or cells m 0))
  mark_next first before g h = (
    grown_more before a with_bit g cell_grown,
    λ m low high. next m low high (eqb m k) refl,
  )
    where
      next : (m : ℕ) → first ≤ m → m < k + 1 → (b : Bool) → eqb m k ≡ b → HasBit j (get_or cells m 0)
      next m low high true e = rw (eqb-true m k e) cell_has
      next m low high false e = let ne = eqb-false m k e in stays j m false e (h m low (omega (arith, ne)))

-- ---- a box

marked_on : (j : ℕ) (low high : ℤ) (before after : Axis) → Marks j low high before after → Marked j low high after
marked_on j low high before after h c from to =
    h.1 c (rw (cell_stays before after h.0 low) at from) (rw (cell_stays before after h.0 high) at to)

-- ---- the first boxes

pub boxes_next : (e : Edges) (j : ℕ) (a after : Axis) → AxisCovers e j a
    → Marks j (get_or e.low j (pos 0)) (get_or e.high j (pos 0)) a after → AxisCovers e (j + 1) after
boxes_next e j a after h m = λ i less. next i less (eqb i j) refl
  where
    next : (i : ℕ) → i < j + 1 → (b : Bool) → eqb i j ≡ b → Marked i (get_or e.low i (pos 0)) (get_or e.high i (pos 0)) after
    next i less true q = rw (eqb-true i j q) (marked_on j (get_or e.low j (pos 0)) (get_or e.high j (pos 0)) a after m)
    next i less false q =
        let ne = eqb-false i j q in
        marked_still i (get_or e.low i (pos 0)) (get_or e.high i (pos 0)) a after m.0 (h i (omega (arith, ne)))
