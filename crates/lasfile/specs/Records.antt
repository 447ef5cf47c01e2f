-- Variable length records (VLRs). `lw` is the width of a header's length field: 2 before the points, so that a header
-- is 54 bytes.
-- Assumes nothing.
use Rattle.std.specs.Prelude.{ℕ, zero, suc, ◌+◌, ◌^◌, ◌<◌, List, [], ◌∷◌, map, length, drop}
use Rattle.fields.specs.Bytes.{Bytes, part, num, bytes_of, zeros, join}
use Rattle.fields.specs.Text.{cut, padded, Held}
use Rattle.lasfile.specs.HeaderFields.{header_size, record_count}

-- what a record says: its reserved bytes and text tails are outside it
pub record Record : Type 0 where
  pub user : Bytes
  pub id : ℕ
  pub description : Bytes
  pub payload : Bytes

-- reserved, user ID, record ID, payload length, description, payload
abbrev pub record_widths : ℕ → ℕ → List ℕ
record_widths lw n = 2 ∷ 16 ∷ 2 ∷ lw ∷ 32 ∷ n ∷ []

-- the size of a record's header: 54 for a length field of 2 bytes
abbrev pub front_size : ℕ → ℕ
front_size lw = 52 + lw

-- the payload length in the record with which bytes begin
unfoldable pub payload_length : ℕ → Bytes → ℕ
payload_length lw s = num (part 20 lw s)

-- the record with which bytes begin
unfoldable pub record_of : ℕ → Bytes → Record
record_of lw s =
    record {
      user = cut (part 2 16 s);
      id = num (part 18 2 s);
      description = cut (part (20 + lw) 32 s);
      payload = part (front_size lw) (payload_length lw s) s;
    }

-- how many bytes it takes
unfoldable pub size_of : ℕ → Bytes → ℕ
size_of lw s = front_size lw + payload_length lw s

-- ---- the walk: records follow one another

-- where n records begin, the first at a place
unfoldable pub places : ℕ → ℕ → ℕ → Bytes → List ℕ
places lw zero at s = []
places lw (suc n) at s = at ∷ places lw n (at + size_of lw (drop at s)) s

-- the place after them
unfoldable pub walk_end : ℕ → ℕ → ℕ → Bytes → ℕ
walk_end lw zero at s = at
walk_end lw (suc n) at s = walk_end lw n (at + size_of lw (drop at s)) s

-- those records, each by its place and the bytes from there on; s are the bytes from the first on
unfoldable pub placed : ℕ → ℕ → Bytes → List (ℕ × Bytes)
placed zero at s = []
placed (suc n) at s = (at, s) ∷ placed n (at + size_of 2 s) (drop (size_of 2 s) s)

-- the records that a file counts
unfoldable pub counted : Bytes → List (ℕ × Bytes)
counted s = placed (record_count s) (header_size s) (drop (header_size s) s)

abbrev pub record_at : ℕ → Bytes → ℕ → Record
record_at lw s at = record_of lw (drop at s)

-- n records from a place on
unfoldable pub walk : ℕ → ℕ → ℕ → Bytes → List Record
walk lw n at s = map (record_at lw s) (places lw n at s)

-- ---- a record as it is written: reserved 0, texts padded with zeros

abbrev pub record_fields : ℕ → Record → List Bytes
record_fields lw r =
    zeros 2
    ∷ padded 16 r.user
    ∷ bytes_of 2 r.id
    ∷ bytes_of lw (length r.payload)
    ∷ padded 32 r.description
    ∷ r.payload
    ∷ []

unfoldable pub record_bytes : ℕ → Record → Bytes
record_bytes lw r = join (record_fields lw r)

unfoldable pub written_length : ℕ → Record → ℕ
written_length lw r = front_size lw + length r.payload

unfoldable pub records_bytes : ℕ → List Record → Bytes
records_bytes lw rs = join (map (record_bytes lw) rs)

-- a record that can be written and read back
pub record SoundRecord (lw : ℕ) (r : Record) : Type 0 where
  pub user : Held 16 r.user
  pub id : r.id < 256 ^ 2
  pub description : Held 32 r.description
  pub payload : length r.payload < 256 ^ lw
