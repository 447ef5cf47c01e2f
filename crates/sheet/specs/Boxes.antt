-- The boxes of a keep sheet, which a release reads once, and whether a point lies in one of them.
-- Assumes nothing.
use Rattle.std.specs.Prelude.{◌≡◌, ℕ, zero, suc, ◌+◌, ◌<◌, Bool, false, cond, ◌&&◌, ◌||◌, List, map, length, get_or, set, replicate, ltb, eqb, ℤ, pos, negsuc}
use Rattle.fields.specs.Lists.{kept}
use Rattle.fields.specs.Bytes.{Bytes}
use Rattle.points.specs.Raw.{stored}
use Rattle.points.specs.declared.raw.Stored.{Stored}
use Rattle.sheet.specs.Sheet.{edge, low, high, on_every_axis, lines}
use Rattle.sheet.specs.Keeping.{in_range, is_box, in_table}
use Rattle.sheet.specs.declared.boxes.Edges.{Edges}
use Rattle.sheet.specs.declared.boxes.Boxes.{Boxes}

-- ---- on each axis 64 lows and 64 highs, those of box j at place j; and how many boxes

unfoldable pub box_lines : Bytes → List Bytes
box_lines sheet = kept is_box (lines sheet)

-- the edges on an axis: X is 0, Y is 1, Z is 2
unfoldable pub edges_on : Boxes → ℕ → Edges
edges_on b zero = b.x
edges_on b (suc zero) = b.y
edges_on b (suc (suc n)) = b.z

-- low and high of box j on an axis
abbrev pub low_at : Boxes → ℕ → ℕ → ℤ
low_at b axis j = get_or (edges_on b axis).low j (pos 0)

abbrev pub high_at : Boxes → ℕ → ℕ → ℤ
high_at b axis j = get_or (edges_on b axis).high j (pos 0)

-- the lows and highs of each of these lines; behind them 0
abbrev pub Numbered : List Bytes → Boxes → Type 0
Numbered bs b =
    (axis j : ℕ) → axis < 3 → j < 64
    → (low_at b axis j ≡ get_or (map (low axis) bs) j (pos 0)) × (high_at b axis j ≡ get_or (map (high axis) bs) j (pos 0))

-- the boxes of a sheet
abbrev pub BoxesOf : Bytes → Boxes → Type 0
BoxesOf sheet b = Numbered (box_lines sheet) b × (b.count ≡ pos (length (box_lines sheet)))

-- ---- of any boxes

-- a number as one from 0 to 64
unfoldable pub up_to64 : ℤ → ℕ
up_to64 (pos n) = cond (ltb n 64) n 64
up_to64 (negsuc n) = 0

-- how many they are: there is room for 64
unfoldable pub box_count : Boxes → ℕ
box_count b = up_to64 b.count

-- whether a stored value lies in box j on an axis
unfoldable pub in_axis : Edges → ℕ → ℤ → Bool
in_axis e j z = in_range (get_or e.low j (pos 0)) (get_or e.high j (pos 0)) z

-- whether stored values, by their axis, lie in box j
unfoldable pub in_box_at : Boxes → ℕ → (ℕ → ℤ) → Bool
in_box_at b j at = on_every_axis (λ axis. in_axis (edges_on b axis) j (at axis))

-- in one of the first n
unfoldable pub in_first : Boxes → ℕ → (ℕ → ℤ) → Bool
in_first b zero at = false
in_first b (suc n) at = in_first b n at || in_box_at b n at

-- in one of them, where there are any
unfoldable pub in_any : Boxes → (ℕ → ℤ) → Bool
in_any b at = eqb (box_count b) 0 || in_first b (box_count b) at

-- the stored values of a point, by their axis
unfoldable pub along : Stored → ℕ → ℤ
along p zero = p.x
along p (suc zero) = p.y
along p (suc (suc n)) = p.z

-- a point by its bytes
unfoldable pub in_boxes : Boxes → Bytes → Bool
in_boxes b p = in_any b (λ axis. stored axis p)

-- whether a table and boxes keep a point, by its format and bytes
unfoldable pub keeps_by : List Bool → Boxes → ℕ → Bytes → Bool
keeps_by table b f p = in_table table f p && in_boxes b p

-- ---- how the code reads them, line by line; no public contract cites these

-- none yet
abbrev pub no_edges : Edges
no_edges = record { low = replicate 64 (pos 0); high = replicate 64 (pos 0) }

abbrev pub no_boxes : Boxes
no_boxes = record { x = no_edges; y = no_edges; z = no_edges; count = pos 0 }

-- with these edges of box j
unfoldable pub edges_with : ℕ → ℤ → ℤ → Edges → Edges
edges_with j low high e = record { low = set e.low j low; high = set e.high j high }

-- with the edges of a line's box behind those of the others
unfoldable pub with_box : Bytes → Boxes → Boxes
with_box l b =
    record {
      x = edges_with (box_count b) (edge 0 l) (edge 1 l) b.x;
      y = edges_with (box_count b) (edge 2 l) (edge 3 l) b.y;
      z = edges_with (box_count b) (edge 4 l) (edge 5 l) b.z;
      count = b.count;
    }

-- and counted, where the line is a box
abbrev pub counted : Boxes → Boxes
counted b = record { x = b.x; y = b.y; z = b.z; count = pos (box_count b + 1) }

unfoldable pub with_line : Boxes → Bytes → Boxes
with_line b l = cond (is_box l) (counted (with_box l b)) b
