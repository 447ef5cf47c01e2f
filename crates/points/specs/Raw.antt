-- What is read off the bytes of point records by themselves: the records of a run, and a record's class, flags, return
-- number and stored coordinates. Requests that move one of these by the format move it here.
-- Assumes nothing.
use Rattle.std.specs.Prelude.{ℕ, ◌*◌, ◌/◌, ◌%◌, ◌^◌, Bool, ◌&&◌, List, length, get_or, ltb, leb, eqb, ℤ}
use Rattle.std.specs.Int.{w32}
use Rattle.std.proofs.Common.{to_z}
use Rattle.fields.specs.Lists.{list_if}
use Rattle.fields.specs.Bytes.{Bytes, part, num, pieces}
use Rattle.points.specs.declared.raw.Stored.{Stored}

-- n bits of a byte, from bit `low` on
unfoldable pub bits : ℕ → ℕ → ℕ → ℕ
bits low n b = b / 2 ^ low % 2 ^ n

-- whether a bit of a byte is set
unfoldable pub bit : ℕ → ℕ → Bool
bit n b = eqb (bits n 1 b) 1

-- ---- the classification byte of a format: class in bits 0 to 4, synthetic in 5, key point in 6, withheld in 7

-- its class
unfoldable pub class_in : ℕ → ℕ → ℕ
class_in f b = bits 0 5 b

unfoldable pub synthetic_in : ℕ → ℕ → Bool
synthetic_in f b = bit 5 b

unfoldable pub key_point_in : ℕ → ℕ → Bool
key_point_in f b = bit 6 b

unfoldable pub withheld_in : ℕ → ℕ → Bool
withheld_in f b = bit 7 b

-- ---- one record, by its format

-- a point's classification byte; all four formats have it in one place
unfoldable pub class_byte : ℕ → Bytes → ℕ
class_byte f p = get_or p 15 0

-- a point's class and flags, as its classification byte says
unfoldable pub class_of : ℕ → Bytes → ℕ
class_of f p = class_in f (class_byte f p)

unfoldable pub synthetic_of : ℕ → Bytes → Bool
synthetic_of f p = synthetic_in f (class_byte f p)

unfoldable pub key_point_of : ℕ → Bytes → Bool
key_point_of f p = key_point_in f (class_byte f p)

unfoldable pub withheld_of : ℕ → Bytes → Bool
withheld_of f p = withheld_in f (class_byte f p)

-- a point's return number; all four formats have it in one place
unfoldable pub return_of : ℕ → Bytes → ℕ
return_of f p = bits 0 3 (get_or p 14 0)

-- a point's stored X (axis 0), Y (1) or Z (2), in two's complement; every format begins with them
unfoldable pub stored : ℕ → Bytes → ℤ
stored axis p = to_z w32 (num (part (4 * axis) 4 p))

unfoldable pub stored_of : Bytes → Stored
stored_of p = record { x = stored 0 p; y = stored 1 p; z = stored 2 p }

-- ---- a run of records
-- A function over a run takes any run, any length and any count, so a run that does not hold its records is one of
-- none; a release never meets that, since the file checks come first.

-- records are of 20 bytes or more, below 2 ^ 32 in number, and all in `size` bytes
unfoldable pub in_run : ℕ → ℕ → ℕ → Bool
in_run count len size = leb 20 len && (ltb count 4294967296 && leb (count * len) size)

-- the first `count` records of a run, `len` bytes each; none where the run does not hold them
unfoldable pub points_of : ℕ → ℕ → Bytes → List Bytes
points_of count len run = list_if (in_run count len (length run)) (pieces count len run)
