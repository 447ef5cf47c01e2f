-- An index of boxes: for each axis 64 cells, which say by their bits which boxes reach into them. No public contract
-- cites it.
-- Assumes nothing.
use Rattle.std.specs.Prelude.{◌≡◌, ℕ, zero, suc, ◌+◌, ◌-◌, ◌/◌, ◌%◌, ◌^◌, ◌≤◌, ◌<◌, min, get_or, ℤ, pos, negsuc}
use Rattle.points.specs.declared.raw.Stored.{Stored}
use Rattle.sheet.specs.declared.boxes.Edges.{Edges}
use Rattle.sheet.specs.declared.boxes.Boxes.{Boxes}
use Rattle.sheet.specs.Boxes.{box_count}
use Rattle.release.specs.declared.box_index.Axis.{Axis}
use Rattle.release.specs.declared.box_index.BoxIndex.{BoxIndex}

-- ---- cells

-- a stored value as a number from 0 on, in the same order
unfoldable pub key : ℤ → ℕ
key (pos n) = n + 2147483648
key (negsuc n) = 2147483648 - suc n

-- the cell of a stored value, by where its axis begins and by how many bits a cell is wide; those before the first cell
-- and behind the last count as in these
unfoldable pub cell_of : ℕ → ℕ → ℤ → ℕ
cell_of begin bits z = min ((key z - begin) / 2 ^ (bits % 64)) 63

abbrev pub cell_on : Axis → ℤ → ℕ
cell_on a z = cell_of a.begin a.bits z

-- ---- bits

-- bit j of a number
unfoldable pub bit_of : ℕ → ℕ → ℕ
bit_of zero m = m % 2
bit_of (suc j) m = bit_of j (m / 2)

abbrev pub HasBit : ℕ → ℕ → Type 0
HasBit j m = bit_of j m ≡ 1

-- ---- what an index says

-- the boxes that reach into the cell of a stored value
abbrev pub boxes_at : Axis → ℤ → ℕ
boxes_at a z = get_or a.cells (cell_on a z) 0

-- box j is marked on an axis: every cell from that of its low to that of its high has its bit
abbrev pub Marked : ℕ → ℤ → ℤ → Axis → Type 0
Marked j low high a = (c : ℕ) → cell_on a low ≤ c → c ≤ cell_on a high → HasBit j (get_or a.cells c 0)

-- the first n boxes are, by their edges on it
abbrev pub AxisCovers : Edges → ℕ → Axis → Type 0
AxisCovers e n a = (j : ℕ) → j < n → Marked j (get_or e.low j (pos 0)) (get_or e.high j (pos 0)) a

-- they are on every axis
pub record Indexed (b : Boxes) (n : ℕ) (index : BoxIndex) : Type 0 where
  pub x : AxisCovers b.x n index.x
  pub y : AxisCovers b.y n index.y
  pub z : AxisCovers b.z n index.z

-- all of them, where there are several
abbrev pub Covers : Boxes → BoxIndex → Type 0
Covers b index = 1 < box_count b → Indexed b (box_count b) index

-- the bits of every box that reaches, on all axes, into the cells of stored values
abbrev pub Near : BoxIndex → Stored → ℕ → Type 0
Near index p near =
    (j : ℕ) → HasBit j (boxes_at index.x p.x) → HasBit j (boxes_at index.y p.y) → HasBit j (boxes_at index.z p.z)
    → HasBit j near

-- ---- how it is made

-- no bit is lost, and cells are where they were
pub record Grown (before after : Axis) : Type 0 where
  pub stay : (j k : ℕ) → HasBit j (get_or before.cells k 0) → HasBit j (get_or after.cells k 0)
  pub begin : after.begin ≡ before.begin
  pub bits : after.bits ≡ before.bits

-- the cells from one to another have bit j as well
abbrev pub MarksCells : ℕ → ℕ → ℕ → Axis → Axis → Type 0
MarksCells first last j before after =
    Grown before after × ((k : ℕ) → first ≤ k → k ≤ last → HasBit j (get_or after.cells k 0))

-- every cell that box j reaches into has
abbrev pub Marks : ℕ → ℤ → ℤ → Axis → Axis → Type 0
Marks j low high before after = MarksCells (cell_on before low) (cell_on before high) j before after
