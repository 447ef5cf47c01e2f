-- Bytes: parts by place and width, little-endian numbers, fields back to back.
-- Assumes nothing.
use Rattle.std.specs.Prelude.{◌≡◌, ℕ, zero, suc, ◌+◌, ◌*◌, ◌/◌, ◌%◌, ◌<◌, Bool, true, false, ◌&&◌, List, [], ◌∷◌, ◌++◌, map, length, take, drop, get_or, replicate, eqb}

abbrev pub Bytes : Type 0
Bytes = List ℕ

-- every element is a byte, as every element of a `&[u8]` is
abbrev pub AllBytes : Bytes → Type 0
AllBytes s = (i : ℕ) → get_or s i 0 < 256

-- the w bytes at a place, or those of them that there are
unfoldable pub part : ℕ → ℕ → Bytes → Bytes
part at w s = take w (drop at s)

-- the number that bytes hold, the lowest first
unfoldable pub num : Bytes → ℕ
num [] = 0
num (b ∷ bs) = b + 256 * num bs

-- a number as w bytes, the lowest first
unfoldable pub bytes_of : ℕ → ℕ → Bytes
bytes_of zero n = []
bytes_of (suc w) n = n % 256 ∷ bytes_of w (n / 256)

abbrev pub zeros : ℕ → Bytes
zeros n = replicate n 0

-- whether two runs of bytes are equal
unfoldable pub same : Bytes → Bytes → Bool
same [] [] = true
same [] (y ∷ ys) = false
same (x ∷ xs) [] = false
same (x ∷ xs) (y ∷ ys) = eqb x y && same xs ys

unfoldable pub join : List Bytes → Bytes
join [] = []
join (x ∷ xs) = x ++ join xs

-- n pieces of w bytes each, back to back from the front
unfoldable pub pieces : ℕ → ℕ → Bytes → List Bytes
pieces zero w s = []
pieces (suc n) w s = take w s ∷ pieces n w (drop w s)

-- ---- fields back to back

-- the place of field i where the fields have these widths
abbrev pub start : ℕ → List ℕ → ℕ
start zero ws = 0
start (suc i) [] = 0
start (suc i) (w ∷ ws) = w + start i ws

-- the fields have these widths
abbrev pub Fit : List ℕ → List Bytes → Type 0
Fit [] [] = Unit {0}
Fit [] (f ∷ fs) = ⊥
Fit (w ∷ ws) [] = ⊥
Fit (w ∷ ws) (f ∷ fs) = (length f ≡ w) × Fit ws fs

unfoldable pub numbers_bytes : ℕ → List ℕ → Bytes
numbers_bytes w ns = join (map (bytes_of w) ns)
