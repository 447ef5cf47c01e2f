-- A header as it is written, from what it says.
-- Assumes nothing.
use Rattle.std.specs.Prelude.{ℕ, List, [], ◌∷◌}
use Rattle.fields.specs.Bytes.{Bytes, bytes_of, numbers_bytes}
use Rattle.fields.specs.Text.{padded}
use Rattle.lasfile.specs.HeaderFields.{signature, version, header_block}
use Rattle.publicpart.specs.Public.{Carried}

-- the carried fields, point offset, number of records, number of points, points by return, and bounds as their bits
pub record Head : Type 0 where
  pub carried : Carried
  pub offset : ℕ
  pub records : ℕ
  pub points : ℕ
  pub bins : List ℕ
  pub bounds : List ℕ

-- signature, bytes 4 to 23, version, two texts, day, year, header size, offset to points, number of VLRs, format,
-- record length, number of points, points by return, scales and offsets, bounds
abbrev pub head_widths : List ℕ
head_widths = 4 ∷ 20 ∷ 2 ∷ 32 ∷ 32 ∷ 2 ∷ 2 ∷ 2 ∷ 4 ∷ 4 ∷ 1 ∷ 2 ∷ 4 ∷ 20 ∷ 48 ∷ 48 ∷ []

abbrev pub head_fields : Head → List Bytes
head_fields h =
    signature
    ∷ h.carried.ids
    ∷ version
    ∷ padded 32 h.carried.system
    ∷ padded 32 h.carried.software
    ∷ bytes_of 2 h.carried.day
    ∷ bytes_of 2 h.carried.year
    ∷ bytes_of 2 header_block
    ∷ bytes_of 4 h.offset
    ∷ bytes_of 4 h.records
    ∷ bytes_of 1 h.carried.format
    ∷ bytes_of 2 h.carried.record_length
    ∷ bytes_of 4 h.points
    ∷ numbers_bytes 4 h.bins
    ∷ h.carried.scaling
    ∷ numbers_bytes 8 h.bounds
    ∷ []
