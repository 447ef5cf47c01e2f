-- Laws of a header's fields: how large each can be, and that each is read where it was written.
-- Assumes nothing.
use mathlib.Core.Path.{◌≡◌, ap, ◌∙◌}
use Prim.Native.Nat.{ℕ, ◌^◌, ◌<◌}
use Rattle.fields.specs.Bytes.{Bytes, AllBytes, part, num, bytes_of}
use Rattle.fields.proofs.ByteLaws.{num-part-lt, num-bytes_of}
use Rattle.lasfile.specs.HeaderFields.{header_size, point_offset, record_count, format, record_length, point_count}

module _ (s : Bytes) (bytes : AllBytes s) where
  pub offset_low : point_offset s < 256 ^ 4
  unfolding point_offset
  offset_low = num-part-lt 96 4 s bytes

  pub records_low : record_count s < 256 ^ 4
  unfolding record_count
  records_low = num-part-lt 100 4 s bytes

  pub length_low : record_length s < 256 ^ 2
  unfolding record_length
  length_low = num-part-lt 105 2 s bytes

  pub count_low : point_count s < 256 ^ 4
  unfolding point_count
  count_low = num-part-lt 107 4 s bytes

-- ---- a number n that was written at a field's place is the field

module _ (s : Bytes) (n : ℕ) where
  written : (at w : ℕ) → part at w s ≡ bytes_of w n → n < 256 ^ w → num (part at w s) ≡ n
  written at w e h = ap num e ∙ num-bytes_of w n h

  pub size_written : part 94 2 s ≡ bytes_of 2 n → n < 256 ^ 2 → header_size s ≡ n
  unfolding header_size
  size_written = written 94 2

  pub offset_written : part 96 4 s ≡ bytes_of 4 n → n < 256 ^ 4 → point_offset s ≡ n
  unfolding point_offset
  offset_written = written 96 4

  pub records_written : part 100 4 s ≡ bytes_of 4 n → n < 256 ^ 4 → record_count s ≡ n
  unfolding record_count
  records_written = written 100 4

  pub format_written : part 104 1 s ≡ bytes_of 1 n → n < 256 ^ 1 → format s ≡ n
  unfolding format
  format_written = written 104 1

  pub length_written : part 105 2 s ≡ bytes_of 2 n → n < 256 ^ 2 → record_length s ≡ n
  unfolding record_length
  length_written = written 105 2

  pub count_written : part 107 4 s ≡ bytes_of 4 n → n < 256 ^ 4 → point_count s ≡ n
  unfolding point_count
  count_written = written 107 4

-- ---- files whose bytes at a field's place are the same have the same number there

module _ (s t : Bytes) where
  pub size_same : part 94 2 s ≡ part 94 2 t → header_size s ≡ header_size t
  unfolding header_size
  size_same = ap num

  pub offset_same : part 96 4 s ≡ part 96 4 t → point_offset s ≡ point_offset t
  unfolding point_offset
  offset_same = ap num

  pub records_same : part 100 4 s ≡ part 100 4 t → record_count s ≡ record_count t
  unfolding record_count
  records_same = ap num

  pub format_same : part 104 1 s ≡ part 104 1 t → format s ≡ format t
  unfolding format
  format_same = ap num

  pub length_same : part 105 2 s ≡ part 105 2 t → record_length s ≡ record_length t
  unfolding record_length
  length_same = ap num
