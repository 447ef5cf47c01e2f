-- Laws of a sheet's boxes: where they are the sheet's, a point lies in one of them exactly if the sheet
-- keeps its place.
-- Assumes nothing.
use mathlib.Core.Path.{◌≡◌, refl, sym, ap, ◌∙◌}
use Prim.Native.Nat.{ℕ, zero, suc, ◌≤◌, ◌<◌}
use native.Mathlib.Omega.{arith}
use mathlib.Core.Bool.{Bool, true, false, not, ◌&&◌, ◌||◌}
use mathlib.Core.List.{List, [], ◌∷◌, map}
use lib.ListN.{length, get_or, take}
use lib.Seq.{take_all}
use lib.Dec.{eqb}
use lib.IntN.{ℤ, pos}
use Rattle.fields.specs.Lists.{any_of}
use Rattle.fields.specs.Bytes.{Bytes, AllBytes}
use Rattle.fields.proofs.ListLaws.{length-kept, some_kept, some_counted, some_take}
use Rattle.points.specs.Raw.{stored, stored_of}
use Rattle.sheet.specs.Sheet.{low, high, on_every_axis, lines}
use Rattle.sheet.specs.Keeping.{is_box, in_box, contains_point, has_box, keeps_place, keeps_point, TableOf, in_table}
use Rattle.sheet.specs.declared.boxes.Boxes.{Boxes}
use Rattle.sheet.specs.Boxes.{box_lines, low_at, high_at, Numbered, BoxesOf, box_count, in_axis, in_box_at, in_first, in_any, along, in_boxes, keeps_by}
use Rattle.sheet.proofs.LineLaws.{at_most_64}
use Rattle.sheet.proofs.boxes.NumberLaws.{count_as}
use Rattle.sheet.proofs.class_table.ClassLaws.{table_keeps}

-- ---- how many there are

few_boxes : (sheet : Bytes) → length (box_lines sheet) ≤ 64
unfolding box_lines
few_boxes sheet = omega (arith, length-kept is_box (lines sheet), at_most_64 sheet)

pub count_is : (sheet : Bytes) (b : Boxes) → BoxesOf sheet b → box_count b ≡ length (box_lines sheet)
count_is sheet b h = count_as b (length (box_lines sheet)) h.1 (few_boxes sheet)

-- ---- a point in them

first_by_bytes : (b : Boxes) (p : Bytes) (n : ℕ) → in_first b n (along (stored_of p)) ≡ in_first b n (λ axis. stored axis p)
unfolding in_first in_box_at on_every_axis along stored_of
first_by_bytes b p zero = refl
first_by_bytes b p (suc n) = rw (first_by_bytes b p n)

-- by its bytes, or by the stored values that are read from them
pub by_bytes : (b : Boxes) (p : Bytes) → in_any b (along (stored_of p)) ≡ in_boxes b p
unfolding in_boxes in_any
by_bytes b p = ap (λ (r : Bool). eqb (box_count b) 0 || r) (first_by_bytes b p (box_count b))

of_line : (f : Bytes → ℤ) (bs : List Bytes) (j : ℕ) → j < length bs → get_or (map f bs) j (pos 0) ≡ f (get_or bs j [])
of_line f [] j h = absurd (omega arith)
of_line f (l ∷ bs) zero h = refl
of_line f (l ∷ bs) (suc j) h = of_line f bs j (omega arith)

module _ (bs : List Bytes) (b : Boxes) (h : Numbered bs b) (j : ℕ) (less : j < length bs) (most : j < 64) where
  abbrev line : Bytes
  line = get_or bs j []

  on_axis : (axis : ℕ) → axis < 3 → (low_at b axis j ≡ low axis line) × (high_at b axis j ≡ high axis line)
  on_axis axis three =
      let e = h axis j three most in
      (e.0 ∙ of_line (low axis) bs j less, e.1 ∙ of_line (high axis) bs j less)

  in_numbered : (p : Bytes) → in_box_at b j (λ axis. stored axis p) ≡ in_box line p
  unfolding in_box_at in_axis in_box on_every_axis
  in_numbered p =
      let x = on_axis 0 (omega arith) in
      let y = on_axis 1 (omega arith) in
      let z = on_axis 2 (omega arith) in
      rw (x.0, x.1, y.0, y.1, z.0, z.1)

in_first_lem : (bs : List Bytes) (b : Boxes) → Numbered bs b → length bs ≤ 64 → (n : ℕ) → n ≤ length bs → (p : Bytes)
    → in_first b n (λ axis. stored axis p) ≡ any_of (λ l. in_box l p) (take n bs)
unfolding in_first any_of
in_first_lem bs b h most zero le p = refl
in_first_lem bs b h most (suc n) le p =
    rw (in_first_lem bs b h most n (omega arith) p, in_numbered bs b h n (omega arith) (omega arith) p)
    (sym (some_take (λ l. in_box l p) n bs [] (omega arith)))

-- where there are some, some line is one
has_some : (sheet : Bytes) → has_box sheet ≡ not (eqb (length (box_lines sheet)) 0)
unfolding has_box box_lines
has_some sheet = some_counted is_box (lines sheet)

in_some : (sheet p : Bytes) → any_of (λ l. contains_point l p) (lines sheet) ≡ any_of (λ l. in_box l p) (box_lines sheet)
unfolding contains_point box_lines
in_some sheet p = some_kept is_box (λ l. in_box l p) (lines sheet)

not-not : (b : Bool) → not (not b) ≡ b
not-not true = refl
not-not false = refl

pub boxes_keep : (sheet : Bytes) (b : Boxes) → BoxesOf sheet b → (p : Bytes) → in_boxes b p ≡ keeps_place sheet p
unfolding in_boxes in_any keeps_place
boxes_keep sheet b h p =
    let bs = box_lines sheet in
    let all : in_first b (length bs) (λ axis. stored axis p) ≡ any_of (λ l. in_box l p) bs =
    in_first_lem bs b h.0 (few_boxes sheet) (length bs) (omega arith) p ∙ ap (any_of (λ l. in_box l p)) (take_all (length bs) bs (omega arith)) in
    rw (count_is sheet b h, all, has_some sheet, in_some sheet p, not-not (eqb (length bs) 0))

-- ---- a table and boxes keep what the sheet keeps

pub keeps_by_lem : (sheet : Bytes) (f : ℕ) (table : List Bool) (boxes : Boxes) → TableOf sheet f table → BoxesOf sheet boxes
    → (p : Bytes) → AllBytes p → keeps_by table boxes f p ≡ keeps_point sheet f p
unfolding keeps_by
keeps_by_lem sheet f table boxes t r p h =
    ap (λ (k : Bool). in_table table f p && k) (boxes_keep sheet boxes r p) ∙ table_keeps sheet f table t p h
