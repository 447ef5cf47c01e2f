-- The cutting list: its lines lie in the file, one behind the other, and name what is kept.
-- Assumes nothing.
use Rattle.std.specs.Prelude.{◌≡◌, ℕ, ◌+◌, ◌≤◌, ◌<◌, List, map, length, get_or}
use Rattle.fields.specs.Bytes.{Bytes, join}
use Rattle.fields.specs.Checks.{Passes}
use Rattle.lasfile.specs.FileChecks.{file_verdict}
use Rattle.publicpart.specs.Public.{public_of}
use Rattle.publicpart.specs.declared.Span.{Span}
use Rattle.publicpart.specs.Cutting.{span, named, record_lines, point_lines, cutting_lines}
use Rattle.theorems.specs.Terms.{enough}

-- line i of a list, counted from 0
abbrev pub line_at : List Span → ℕ → Span
line_at lines i = get_or lines i (span 0 0)

-- the place behind a line
abbrev pub end_of : Span → ℕ
end_of l = l.place + l.length

-- of a file that passes, under any sheet
pub record InOrder : Type 0 where
  -- every line lies in the file
  pub inside : (sheet file : Bytes) → file_verdict file ≡ Passes → (i : ℕ) → i < length (cutting_lines sheet file)
      → end_of (line_at (cutting_lines sheet file) i) ≤ length file
  -- places never fall
  pub rising : (sheet file : Bytes) → file_verdict file ≡ Passes → (i j : ℕ) → i ≤ j → j < length (cutting_lines sheet file)
      → (line_at (cutting_lines sheet file) i).place ≤ (line_at (cutting_lines sheet file) j).place
  -- no two lines overlap: each ends by where any later one begins
  pub apart : (sheet file : Bytes) → file_verdict file ≡ Passes → (i j : ℕ) → i < j → j < length (cutting_lines sheet file)
      → end_of (line_at (cutting_lines sheet file) i) ≤ (line_at (cutting_lines sheet file) j).place

-- of any file, under any sheet
pub record NamesWhatIsKept : Type 0 where
  -- as many lines as kept records and kept points together
  pub counted : (sheet file : Bytes) → length (cutting_lines sheet file) ≡ enough sheet file
  -- the bytes that the lines for records name are the kept payloads, one by one
  pub payloads : (sheet file : Bytes)
      → map (named file) (record_lines sheet file) ≡ map (λ r. r.payload) (public_of sheet file).records
  -- those of the lines for points are the kept points, one by one
  pub points : (sheet file : Bytes) → map (named file) (point_lines sheet file) ≡ (public_of sheet file).points
  -- and joined
  pub joined_payloads : (sheet file : Bytes)
      → join (map (named file) (record_lines sheet file)) ≡ join (map (λ r. r.payload) (public_of sheet file).records)
  pub joined_points : (sheet file : Bytes)
      → join (map (named file) (point_lines sheet file)) ≡ join (public_of sheet file).points
