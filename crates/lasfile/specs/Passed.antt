-- What it means that a file passes the file checks, fact by fact.
-- Assumes nothing.
use Rattle.std.specs.Prelude.{◌≡◌, ℕ, ◌+◌, ◌*◌, ◌≤◌, length, T}
use Rattle.fields.specs.Bytes.{Bytes, part}
use Rattle.points.specs.Formats.{format_size}
use Rattle.scaling.specs.Scaling.{scaling_of, good_scaling}
use Rattle.lasfile.specs.HeaderFields.{signature, version, header_block, header_size, point_offset, format, record_length, point_count}
use Rattle.lasfile.specs.FileChecks.{records_end}

-- 1 to 8 and 10 are clear, and there is room for a number of points
pub record PassedWith (points : ℕ) (s : Bytes) : Type 0 where
  pub whole : header_block ≤ length s
  pub signed : part 0 4 s ≡ signature
  pub versioned : part 24 2 s ≡ version
  pub header_low : header_block ≤ header_size s
  pub header_high : header_size s ≤ length s
  pub formatted : format s ≤ 3
  pub record_low : format_size (format s) ≤ record_length s
  pub offset_low : header_size s ≤ point_offset s
  pub offset_high : point_offset s ≤ length s
  pub walked : records_end s ≤ point_offset s
  pub pointed : point_offset s + points * record_length s ≤ length s
  pub scaled : T (good_scaling (scaling_of s))

-- with room for the points that it states
abbrev pub Passed : Bytes → Type 0
Passed s = PassedWith (point_count s) s
