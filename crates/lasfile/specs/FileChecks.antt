-- The file checks 1 to 10.
-- Assumes nothing.
use Rattle.std.specs.Prelude.{ℕ, ◌+◌, ◌*◌, not, List, [], ◌∷◌, eqb, length}
use Rattle.fields.specs.Lists.{kept}
use Rattle.fields.specs.Bytes.{Bytes, part}
use Rattle.fields.specs.Checks.{Check, first_failing, ◌below◌, ◌differs_from◌, not_so, ◌or◌, Verdict}
use Rattle.points.specs.Formats.{format_size}
use Rattle.lasfile.specs.HeaderFields.{signature, version, header_block, header_size, point_offset, record_count, format, record_length, point_count}
use Rattle.lasfile.specs.Records.{walk_end}
use Rattle.scaling.specs.Scaling.{scaling_of, good_scaling}

-- over a file's length, its header and the place where its records end
abbrev pub file_checks_of : ℕ → Bytes → ℕ → List Check
file_checks_of n header end =
    (1, n below header_block)
    ∷ (2, part 0 4 header differs_from signature)
    ∷ (3, part 24 2 header differs_from version)
    ∷ (4, header_size header below header_block or n below header_size header)
    ∷ (5, 3 below format header)
    ∷ (6, record_length header below format_size (format header))
    ∷ (7, point_offset header below header_size header or n below point_offset header)
    ∷ (8, point_offset header below end)
    ∷ (9, n below point_offset header + point_count header * record_length header)
    ∷ (10, not_so (good_scaling (scaling_of header)))
    ∷ []

-- the place after the counted records
unfoldable pub records_end : Bytes → ℕ
records_end s = walk_end 2 (record_count s) (header_size s) s

abbrev pub file_checks : Bytes → List Check
file_checks s = file_checks_of (length s) s (records_end s)

-- the first file check that fails
unfoldable pub file_verdict : Bytes → Verdict
file_verdict s = first_failing (file_checks s)

-- ---- what the mender (change request E1) asks: all of them but 9

abbrev pub without : ℕ → List Check → List Check
without n cs = kept (λ c. not (eqb c.0 n)) cs

abbrev pub mend_checks : Bytes → List Check
mend_checks s = without 9 (file_checks s)

unfoldable pub mend_verdict : Bytes → Verdict
mend_verdict s = first_failing (mend_checks s)
