-- How boxes are read, apart from any code: the edges of one box on an axis, one line of a sheet, and all of them.
-- Assumes nothing.
use mathlib.Core.Path.{◌≡◌, refl, sym, ap, ◌∙◌}
use Prim.Native.Nat.{ℕ, zero, suc, ◌+◌, ◌≤◌, ◌<◌}
use native.Mathlib.Omega.{arith}
use mathlib.Core.Bool.{Bool, true, false, cond}
use mathlib.Core.List.{List, [], ◌∷◌, ◌++◌, append-nil, append_assoc, foldl, map}
use lib.ListN.{length, get_or, set, replicate, length-append, length-set}
use lib.Seq.{get_or-set_same, get_or-set_other}
use lib.Dec.{eqb}
use lib.IntN.{ℤ, pos}
use borrow.Author.Tests.{eqb-true, eqb-false}
use Rattle.fields.specs.Lists.{cons_if, kept}
use Rattle.fields.specs.Bytes.{Bytes}
use Rattle.fields.proofs.ListLaws.{cons_if-append}
use Rattle.sheet.specs.Sheet.{edge, low, high, lines}
use Rattle.sheet.specs.Keeping.{is_box}
use Rattle.sheet.specs.declared.boxes.Boxes.{Boxes}
use Rattle.sheet.specs.Boxes.{box_lines, edges_on, Numbered, BoxesOf, box_count, no_boxes, edges_with, with_box, counted, with_line}
use Rattle.sheet.proofs.boxes.NumberLaws.{count_as, at_most}
use Rattle.sheet.proofs.LineLaws.{at_most_64}

-- ---- one number more behind those of other lines

module _ (f : Bytes → ℤ) (l : Bytes) where
  at_end : (bs : List Bytes) (j : ℕ) → j ≡ length bs → get_or (map f (bs ++ l ∷ [])) j (pos 0) ≡ f l
  at_end [] zero e = refl
  at_end [] (suc j) e = absurd (omega arith)
  at_end (b ∷ bs) zero e = absurd (omega arith)
  at_end (b ∷ bs) (suc j) e = at_end bs j (omega arith)

  elsewhere : (bs : List Bytes) (j : ℕ) → (j ≡ length bs → ⊥) → get_or (map f (bs ++ l ∷ [])) j (pos 0) ≡ get_or (map f bs) j (pos 0)
  elsewhere [] zero ne = absurd (ne refl)
  elsewhere [] (suc j) ne = refl
  elsewhere (b ∷ bs) zero ne = refl
  elsewhere (b ∷ bs) (suc j) ne = elsewhere bs j (λ e. ne (ap suc e))

-- the numbers of these lines stand in order, and 0 behind them
record Stand (f : Bytes → ℤ) (bs : List Bytes) (ns : List ℤ) : Type 0 where
  pub each : (j : ℕ) → j < 64 → get_or ns j (pos 0) ≡ get_or (map f bs) j (pos 0)
  pub size : length ns ≡ 64

zeros_are : (m k : ℕ) → get_or (replicate m (pos 0)) k (pos 0) ≡ pos 0
zeros_are zero k = refl
zeros_are (suc m) zero = refl
zeros_are (suc m) (suc k) = zeros_are m k

none_stand : (f : Bytes → ℤ) → Stand f [] (replicate 64 (pos 0))
none_stand f = record { each = λ j less. zeros_are 64 j; size = refl }

one_more : (f : Bytes → ℤ) (l : Bytes) (bs : List Bytes) (ns : List ℤ) (n : ℕ) → n ≡ length bs → n < 64 → Stand f bs ns
    → Stand f (bs ++ l ∷ []) (set ns n (f l))
one_more f l bs ns n number small h = record { each = λ j less. by_place j less (eqb j n) refl; size = length-set ns n (f l) ∙ h.size }
  where
    by_place : (j : ℕ) → j < 64 → (b : Bool) → eqb j n ≡ b → get_or (set ns n (f l)) j (pos 0) ≡ get_or (map f (bs ++ l ∷ [])) j (pos 0)
    by_place j less true e =
        let same : j ≡ n = eqb-true j n e in
        let at : get_or (set ns n (f l)) n (pos 0) ≡ f l = get_or-set_same ns n (f l) (pos 0) (omega (arith, h.size)) in
        ap (λ (k : ℕ). get_or (set ns n (f l)) k (pos 0)) same ∙ at ∙ sym (at_end f l bs j (omega arith))
    by_place j less false e =
        let ne : j ≡ n → ⊥ = eqb-false j n e in
        get_or-set_other ns n j (f l) (pos 0) ne ∙ h.each j less ∙ sym (elsewhere f l bs j (λ q. ne (omega arith)))

-- ---- one line more

-- the boxes are those of these lines
record Held (bs : List Bytes) (b : Boxes) : Type 0 where
  pub number : b.count ≡ pos (length bs)
  pub low_x : Stand (edge 0) bs b.x.low
  pub high_x : Stand (edge 1) bs b.x.high
  pub low_y : Stand (edge 2) bs b.y.low
  pub high_y : Stand (edge 3) bs b.y.high
  pub low_z : Stand (edge 4) bs b.z.low
  pub high_z : Stand (edge 5) bs b.z.high

none_held : Held [] no_boxes
none_held =
    record {
      number = refl;
      low_x = none_stand (edge 0);
      high_x = none_stand (edge 1);
      low_y = none_stand (edge 2);
      high_y = none_stand (edge 3);
      low_z = none_stand (edge 4);
      high_z = none_stand (edge 5);
    }

module _ (l : Bytes) (bs : List Bytes) (b : Boxes) (small : length bs < 64) (h : Held bs b) where
  box_held : Held (bs ++ l ∷ []) (counted (with_box l b))
  unfolding with_box edges_with
  box_held =
      let n : box_count b ≡ length bs = count_as b (length bs) h.number (omega arith) in
      let less : box_count b < 64 = omega (arith, n) in
      record {
        number = ap pos (omega (arith, count_as (with_box l b) (length bs) h.number (omega arith), length-append bs (l ∷ [])));
        low_x = one_more (edge 0) l bs b.x.low (box_count b) n less h.low_x;
        high_x = one_more (edge 1) l bs b.x.high (box_count b) n less h.high_x;
        low_y = one_more (edge 2) l bs b.y.low (box_count b) n less h.low_y;
        high_y = one_more (edge 3) l bs b.y.high (box_count b) n less h.high_y;
        low_z = one_more (edge 4) l bs b.z.low (box_count b) n less h.low_z;
        high_z = one_more (edge 5) l bs b.z.high (box_count b) n less h.high_z;
      }

  by_kind : (k : Bool) → Held (bs ++ cons_if k l []) (cond k (counted (with_box l b)) b)
  unfolding cons_if
  by_kind true = box_held
  by_kind false = rw append-nil h

  line_held : Held (bs ++ cons_if (is_box l) l []) (with_line b l)
  unfolding with_line
  line_held = by_kind (is_box l)

length_if : (b : Bool) (l : Bytes) (bs : List Bytes) → length (bs ++ cons_if b l []) ≤ length bs + 1
unfolding cons_if
length_if true l bs = omega (arith, length-append bs (l ∷ []))
length_if false l bs = omega (arith, length-append {A = Bytes} bs [])

-- ---- all lines

lines_held : (ls bs : List Bytes) (b : Boxes) → length bs + length ls ≤ 64 → Held bs b → Held (bs ++ kept is_box ls) (foldl with_line b ls)
unfolding kept
lines_held [] bs b few h = rw append-nil h
lines_held (l ∷ ls) bs b few h =
    let bs' : List Bytes = bs ++ cons_if (is_box l) l [] in
    let all : Held (bs' ++ kept is_box ls) (foldl with_line (with_line b l) ls) =
    lines_held ls bs' (with_line b l) (omega (arith, length_if (is_box l) l bs)) (line_held l bs b (omega arith) h) in
    let e : bs' ++ kept is_box ls ≡ bs ++ cons_if (is_box l) l (kept is_box ls) =
    append_assoc bs (cons_if (is_box l) l []) (kept is_box ls) ∙ ap (λ (r : List Bytes). bs ++ r) (cons_if-append (is_box l) l [] (kept is_box ls)) in
    rw e at all

numbered : (bs : List Bytes) (b : Boxes) → Held bs b → Numbered bs b
unfolding edges_on low high
numbered bs b h zero j three less = (h.low_x.each j less, h.high_x.each j less)
numbered bs b h (suc zero) j three less = (h.low_y.each j less, h.high_y.each j less)
numbered bs b h (suc (suc zero)) j three less = (h.low_z.each j less, h.high_z.each j less)
numbered bs b h (suc (suc (suc k))) j three less = absurd (omega arith)

-- the boxes that all lines of a sheet give are the sheet's
pub read_all : (sheet : Bytes) → BoxesOf sheet (foldl with_line no_boxes (lines sheet))
unfolding box_lines
read_all sheet =
    let h = lines_held (lines sheet) [] no_boxes (omega (arith, at_most_64 sheet)) none_held in
    (numbered (kept is_box (lines sheet)) (foldl with_line no_boxes (lines sheet)) h, h.number)

-- ---- the loop over the lines

by_kind_few : (k : Bool) (l : Bytes) (b : Boxes) → box_count (cond k (counted (with_box l b)) b) ≤ box_count b + 1
unfolding box_count with_box
by_kind_few true l b = at_most (box_count b + 1)
by_kind_few false l b = omega arith

-- these lines are still to look at
pub record Reading (sheet : Bytes) (left : List Bytes) (b : Boxes) : Type 0 where
  pub all : foldl with_line b left ≡ foldl with_line no_boxes (lines sheet)
  pub few : box_count b + length left ≤ 64

pub read_begun : (sheet : Bytes) (left : List Bytes) → left ≡ lines sheet → Reading sheet left no_boxes
read_begun sheet left e = rw e record { all = refl; few = omega (arith, count_as no_boxes 0 refl (omega arith), at_most_64 sheet) }

module _ (sheet : Bytes) (left : List Bytes) (b : Boxes) (c : Reading sheet left b) where
  module _ (l : Bytes) (behind : List Bytes) (split : left ≡ l ∷ behind) where
    one_less : length left ≡ length behind + 1
    one_less = rw split (omega arith)

    pub room : box_count b < 64
    room = omega (arith, c.few, one_less)

    pub read_next : Reading sheet behind (with_line b l)
    unfolding with_line
    read_next =
        record {
          all = sym (ap (foldl with_line b) split) ∙ c.all;
          few = omega (arith, c.few, one_less, by_kind_few (is_box l) l b);
        }

  pub read_ended : left ≡ [] → BoxesOf sheet b
  read_ended none =
      let e : b ≡ foldl with_line no_boxes (lines sheet) = sym (ap (foldl with_line b) none) ∙ c.all in
      rw e (read_all sheet)
