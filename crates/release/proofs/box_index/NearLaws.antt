-- What an index says of a point, apart from any code: a point that lies in a box has that box's bit.
-- Assumes nothing.
use mathlib.Core.Path.{◌≡◌, refl, sym, ◌∙◌}
use Prim.Native.Nat.{ℕ, zero, suc, ◌*◌, ◌%◌, ◌^◌, ◌<◌}
use native.Mathlib.Omega.{arith}
use mathlib.Core.Bool.{Bool, true, false, ◌&&◌, ◌||◌}
use lib.ListN.{get_or}
use lib.Dec.{ltb, eqb}
use lib.IntN.{ℤ, pos}
use lib.Signed.{le_z}
use borrow.Author.Tests.{ltb-true, lt-ltb, eqb-true, eqb-false, ne_eqb}
use Rattle.points.specs.declared.raw.Stored.{Stored}
use Rattle.sheet.specs.Sheet.{on_every_axis}
use Rattle.sheet.specs.Keeping.{in_range}
use Rattle.sheet.specs.declared.boxes.Edges.{Edges}
use Rattle.sheet.specs.declared.boxes.Boxes.{Boxes}
use Rattle.sheet.specs.Boxes.{edges_on, box_count, in_axis, in_box_at, in_first, in_any, along}
use Rattle.release.specs.declared.box_index.Axis.{Axis}
use Rattle.release.specs.declared.box_index.BoxIndex.{BoxIndex}
use Rattle.release.specs.BoxIndex.{cell_on, boxes_at, HasBit, AxisCovers, Indexed, Near}
use Rattle.release.proofs.box_index.BitLaws.{shifted, no_bit, only_bit}
use Rattle.release.proofs.box_index.CellLaws.{cell_le}

-- ---- one box

and_left : (a b : Bool) → a && b ≡ true → a ≡ true
and_left true b e = refl
and_left false b e = e

and_right : (a b : Bool) → a && b ≡ true → b ≡ true
and_right true b e = e
and_right false b e = let z : ◌≡◌ {A = ℕ} 0 1 = cc in absurd (omega arith)

-- on one axis
on_axis : (e : Edges) (n : ℕ) (a : Axis) → AxisCovers e n a → (j : ℕ) → j < n → (z : ℤ) → in_axis e j z ≡ true → HasBit j (boxes_at a z)
unfolding in_axis in_range
on_axis e n a h j less z is =
    let from : ℤ = get_or e.low j (pos 0) in
    let to : ℤ = get_or e.high j (pos 0) in
    let low = and_left (le_z from z) (le_z z to) is in
    let high = and_right (le_z from z) (le_z z to) is in
    h j less (cell_on a z) (cell_le _ _ from z low) (cell_le _ _ z to high)

-- on all
has_bit : (b : Boxes) (index : BoxIndex) (n : ℕ) → Indexed b n index → (p : Stored) (near : ℕ) → Near index p near → (j : ℕ) → j < n
    → in_box_at b j (along p) ≡ true → HasBit j near
unfolding in_box_at on_every_axis edges_on along
has_bit b index n h p near is j less e =
    let x = in_axis b.x j p.x in
    let y = in_axis b.y j p.y in
    let z = in_axis b.z j p.z in
    let rest = and_right x (y && z) e in
    is j
    (on_axis b.x n index.x h.x j less p.x (and_left x (y && z) e))
    (on_axis b.y n index.y h.y j less p.y (and_left y z rest))
    (on_axis b.z n index.z h.z j less p.z (and_right y z rest))

-- ---- the first boxes

or-true : (r : Bool) → r || true ≡ true
or-true true = refl
or-true false = refl

-- one of them holds the point
pub in_some : (b : Boxes) (n : ℕ) (at : ℕ → ℤ) (j : ℕ) → j < n → in_box_at b j at ≡ true → in_first b n at ≡ true
unfolding in_first
in_some b zero at j less e = absurd (omega arith)
in_some b (suc n) at j less e =
    either (eqb j n) refl (λ ne. in_some b n at j (omega (arith, ne)) e)
  where
    either : (r : Bool) → eqb j n ≡ r → ((j ≡ n → ⊥) → in_first b n at ≡ true) → (in_first b n at || in_box_at b n at) ≡ true
    either true q rest = rw (← eqb-true j n q, e) (or-true (in_first b j at))
    either false q rest = rw (rest (eqb-false j n q))

-- none of them does, where no single one does
pub in_none : (b : Boxes) (n : ℕ) (at : ℕ → ℤ) → ((i : ℕ) → i < n → in_box_at b i at ≡ true → ⊥) → in_first b n at ≡ false
unfolding in_first
in_none b zero at h = refl
in_none b (suc n) at h = rw (in_none b n at (λ i less e. h i (omega arith) e)) (last (in_box_at b n at) refl)
  where
    last : (r : Bool) → in_box_at b n at ≡ r → in_box_at b n at ≡ false
    last true e = absurd (h n (omega arith) e)
    last false e = e

-- ---- what one box says, where the index leaves one at most

module _ (b : Boxes) (index : BoxIndex) (n : ℕ) (h : Indexed b n index) (p : Stored) (near j : ℕ) (is : Near index p near) (alone : (i : ℕ) → HasBit i near → i ≡ j) where
  pub one_says : (r : Bool) → r ≡ ltb j n && in_box_at b j (along p) → r ≡ in_first b n (along p)
  one_says true e =
      let less = ltb-true j n (and_left (ltb j n) (in_box_at b j (along p)) (sym e)) in
      sym (in_some b n (along p) j less (and_right (ltb j n) (in_box_at b j (along p)) (sym e)))
  one_says false e = sym (in_none b n (along p) none)
    where
      none : (i : ℕ) → i < n → in_box_at b i (along p) ≡ true → ⊥
      none i less inside =
          let same : i ≡ j = alone i (has_bit b index n h p near is i less inside) in
          let yes : ltb j n && in_box_at b j (along p) ≡ true = rw (← same) (rw (lt-ltb i n less) inside) in
          let z : ◌≡◌ {A = Bool} false true = e ∙ yes in
          let w : ◌≡◌ {A = ℕ} 0 1 = cc in absurd (omega arith)

-- no bit is set, or bit j, as the machine tests it
pub one_at_most : (near j : ℕ) → j < 64 → eqb near 0 || eqb near (1 * 2 ^ j % 18446744073709551616) ≡ true → (i : ℕ) → HasBit i near → i ≡ j
one_at_most near j small e i x = either (eqb near 0) refl
  where
    either : (b : Bool) → eqb near 0 ≡ b → i ≡ j
    either true none = absurd (no_bit i (rw (eqb-true near 0 none) at x))
    either false some =
        let one : near ≡ 2 ^ j = eqb-true near (1 * 2 ^ j % 18446744073709551616) (rw some at e) ∙ shifted j small in
        only_bit i j (rw one at x)

pub any_first : (b : Boxes) (n : ℕ) (at : ℕ → ℤ) → 0 < n → n ≡ box_count b → in_first b n at ≡ in_any b at
unfolding in_any
any_first b n at some e = rw (← e, ne_eqb n 0 (λ q. omega (arith, q)))
