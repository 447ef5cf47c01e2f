-- The mender: what becomes of a file whose header lies, and the mark of each field that it works out.
-- Assumes nothing.
use Rattle.std.specs.Prelude.{ℕ, ◌+◌, ◌-◌, ◌*◌, ◌/◌, ◌^◌, ◌<◌, min, Bool, false, not, List, [], ◌∷◌, ◌++◌, map, length, drop, get_or, replicate, Result, Ok, Err}
use Rattle.fields.specs.Refusals.{refusal_number}
use Rattle.fields.specs.declared.refusal.Refusal.{Refusal}
use Rattle.std.proofs.lemmas.List.Edits.{sets}
use Rattle.fields.specs.Bytes.{Bytes, part, same, bytes_of, pieces, numbers_bytes}
use Rattle.fields.specs.Checks.{Verdict, Passes, Fails}
use Rattle.scaling.specs.Scaling.{scaling_of}
use Rattle.lasfile.specs.HeaderFields.{point_offset, format, record_length, point_count}
use Rattle.lasfile.specs.FileChecks.{mend_verdict}
use Rattle.scaling.specs.declared.Bounds.{Bounds}
use Rattle.publicpart.specs.Bounds.{bins, bounds, bound_numbers}
use Rattle.tally.specs.declared.Tally.{Tally}
use Rattle.tally.specs.Bins.{bin_numbers}

-- ---- the file

-- whole records that fit after the point offset
unfoldable pub whole_records : Bytes → ℕ
whole_records s = (length s - point_offset s) / record_length s

-- number of points becomes the smaller of the stated number and these
unfoldable pub mended_count : Bytes → ℕ
mended_count s = min (point_count s) (whole_records s)

-- the points that bins and bounds are worked out over, whatever a sheet says
unfoldable pub mended_points : Bytes → List Bytes
mended_points s = pieces (mended_count s) (record_length s) (drop (point_offset s) s)

-- number of points and the five bins stand from 107 on, the six bounds from 179 on; no other byte changes
unfoldable pub mended : Bytes → Bytes
mended s =
    sets (sets s 107 (numbers_bytes 4 (mended_count s ∷ bins 5 (format s) (mended_points s)))) 179
    (numbers_bytes 8 (bounds (scaling_of s) (mended_points s)))

-- ---- the marks

-- a field by its place and its width
abbrev pub Field : Type 0
Field = ℕ × ℕ

-- number of points; bins 1 to 5; max X, min X, max Y, min Y, max Z, min Z
abbrev pub mended_fields : List Field
mended_fields =
    (107, 4)
    ∷ (111, 4) ∷ (115, 4) ∷ (119, 4) ∷ (123, 4) ∷ (127, 4)
    ∷ (179, 8) ∷ (187, 8) ∷ (195, 8) ∷ (203, 8) ∷ (211, 8) ∷ (219, 8)
    ∷ []

-- whether a field's bytes are not the same in two files
unfoldable pub changed : Bytes → Bytes → Field → Bool
changed s t f = not (same (part f.0 f.1 s) (part f.0 f.1 t))

-- yes exactly if that field's bytes changed
unfoldable pub marks : Bytes → Bytes → List Bool
marks s t = map (changed s t) mended_fields

-- the first check that fails; and whether the bytes of each mended field changed: number of points, points by return 1
-- to 5, max X, min X, max Y, min Y, max Z, min Z
pub record Mended : Type 0 where
  pub verdict : Verdict
  pub marks : List Bool

-- what the code answers: the marks, or a refusal, which marks nothing
abbrev pub mended_of : Result (List Bool) Refusal → Mended
mended_of (Ok marks) = record { verdict = Passes; marks = marks }
mended_of (Err r) = record { verdict = Fails (refusal_number r); marks = replicate 12 false }

-- ---- the answer, and the file afterwards

-- a refusal changes no byte and marks nothing
unfoldable pub mend_by : Verdict → Bytes → Mended × Bytes
mend_by (Fails n) s = (record { verdict = Fails n; marks = replicate 12 false }, s)
mend_by Passes s = (record { verdict = Passes; marks = marks s (mended s) }, mended s)

-- 1 to 8 and 10 are checked first
unfoldable pub mend : Bytes → Mended × Bytes
mend s = mend_by (mend_verdict s) s

-- ---- what the code's helpers use; no public contract cites these

-- whether the bytes of a field are not those of a number
abbrev pub differs : Bytes → ℕ → ℕ → ℕ → Bool
differs s at w n = not (same (part at w s) (bytes_of w n))

-- of six fields, back to back from a place on, and the first six of some numbers
unfoldable pub six_differ : Bytes → ℕ → ℕ → List ℕ → List Bool
six_differ s at w ns =
    differs s at w (get_or ns 0 0)
    ∷ differs s (at + w) w (get_or ns 1 0)
    ∷ differs s (at + 2 * w) w (get_or ns 2 0)
    ∷ differs s (at + 3 * w) w (get_or ns 3 0)
    ∷ differs s (at + 4 * w) w (get_or ns 4 0)
    ∷ differs s (at + 5 * w) w (get_or ns 5 0)
    ∷ []

-- of the twelve fields, and the numbers that a tally and bounds give
unfoldable pub marks_for : Bytes → Tally → Bounds → List Bool
marks_for s t b = six_differ s 107 4 (t.count ∷ bin_numbers t.bins) ++ six_differ s 179 8 (bound_numbers b)

-- numbers that fit a width
abbrev pub AllFit : ℕ → List ℕ → Type 0
AllFit w ns = (i : ℕ) → get_or ns i 0 < 256 ^ w
