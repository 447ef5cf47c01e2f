-- The public header block: its size, and the fields that say where things are and how many there are.
-- Assumes nothing.
use Rattle.std.specs.Prelude.{ℕ, [], ◌∷◌}
use Rattle.fields.specs.Bytes.{Bytes, part, num}

-- "LASF", and version 1.2
abbrev pub signature : Bytes
signature = 76 ∷ 65 ∷ 83 ∷ 70 ∷ []

abbrev pub version : Bytes
version = 1 ∷ 2 ∷ []

-- the public header block has 227 bytes; a file's header may be longer, and says its size
abbrev pub header_block : ℕ
header_block = 227

unfoldable pub header_size : Bytes → ℕ
header_size s = num (part 94 2 s)

unfoldable pub point_offset : Bytes → ℕ
point_offset s = num (part 96 4 s)

unfoldable pub record_count : Bytes → ℕ
record_count s = num (part 100 4 s)

unfoldable pub format : Bytes → ℕ
format s = num (part 104 1 s)

unfoldable pub record_length : Bytes → ℕ
record_length s = num (part 105 2 s)

unfoldable pub point_count : Bytes → ℕ
point_count s = num (part 107 4 s)
