-- The interface for other languages, in the order of its header file: what each function answers, and the lent bytes
-- afterwards.
-- Assumes nothing.
use Rattle.std.specs.Prelude.{ℕ, List, ℤ}
use Rattle.std.specs.Float.{binary64}
use Rattle.std.specs.Float.Ieee.{of_bits}
use Rattle.fields.specs.Bytes.{Bytes}
use Rattle.fields.specs.Checks.{number_of}
use Rattle.points.specs.Points.{decoded}
use Rattle.points.specs.Encoding.{encoded}
use Rattle.scaling.specs.Scaling.{coordinate_bits}
use Rattle.lasfile.specs.FileChecks.{file_verdict}
use Rattle.reader.specs.Header.{header_read}
use Rattle.reader.specs.Steps.{step_of}
use Rattle.reader.specs.OnePoint.{point_at_of}
use Rattle.sheet.specs.Sheet.{sheet_verdict}
use Rattle.sheet.specs.Keeping.{class_kept, record_kept, class_test}
use Rattle.geokeys.specs.GeoKeys.{lookup}
use Rattle.geokeys.specs.Halving.{lookup_by_halving}
use Rattle.publicpart.specs.Release.{release}
use Rattle.publicpart.specs.declared.Span.{Span}
use Rattle.publicpart.specs.Cutting.{cutting_list, release_by_list}
use Rattle.editor.specs.Mend.{mend}
use Rattle.capi.specs.Answers.{released_numbers, listed_numbers, kept_numbers, tested_numbers, mended_numbers}
use Rattle.capi.specs.declared.answers.las_released.{las_released}
use Rattle.capi.specs.declared.answers.las_listed.{las_listed}
use Rattle.capi.specs.declared.answers.las_kept.{las_kept}
use Rattle.capi.specs.declared.answers.las_class_line.{las_class_line}
use Rattle.capi.specs.declared.answers.las_mended.{las_mended}
use Rattle.capi.specs.RecordAnswers.{record_numbers, geokey_numbers, read_numbers}
use Rattle.capi.specs.declared.vlr.las_record.{las_record}
use Rattle.capi.specs.declared.vlr.las_geokey.{las_geokey}
use Rattle.capi.specs.declared.vlr.las_geokey_read.{las_geokey_read}
use Rattle.capi.specs.PointAnswers.{point_numbers, decoded_numbers, given_point}
use Rattle.capi.specs.declared.point.las_point.{las_point}
use Rattle.capi.specs.HeaderAnswers.{header_numbers}
use Rattle.capi.specs.declared.header.las_header.{las_header}

unfoldable pub las_level : ℕ
las_level = 7

unfoldable pub las_check_file : Bytes → ℕ
las_check_file file = number_of (file_verdict file)

unfoldable pub las_check_sheet : Bytes → ℕ
las_check_sheet sheet = number_of (sheet_verdict sheet)

unfoldable pub las_read_header : Bytes → las_header
las_read_header file = header_numbers (header_read file)

unfoldable pub las_vlr_step : Bytes → ℕ → ℕ → las_record
las_vlr_step file index position = record_numbers (step_of file index position)

unfoldable pub las_point_at : Bytes → ℕ → las_point
las_point_at file index = point_numbers (point_at_of file index)

unfoldable pub las_decode : ℕ → ℕ → Bytes → las_point
las_decode format record_length bytes = decoded_numbers (decoded format record_length bytes)

-- the number, and the room afterwards
unfoldable pub las_encode : ℕ → ℕ → las_point → Bytes → ℕ × Bytes
las_encode format record_length point room =
    let e = encoded format record_length (given_point point) room in (number_of e.0, e.1)

unfoldable pub las_coordinate : ℤ → ℕ → ℕ → ℕ
las_coordinate stored scale offset = coordinate_bits stored (of_bits binary64 scale) (of_bits binary64 offset)

unfoldable pub las_class_kept : Bytes → ℕ → las_kept
las_class_kept sheet class = kept_numbers (class_kept sheet class)

unfoldable pub las_class_test : Bytes → ℕ → las_class_line
las_class_test sheet class = tested_numbers (class_test sheet class)

unfoldable pub las_record_kept : Bytes → Bytes → ℕ → las_kept
las_record_kept sheet user id = kept_numbers (record_kept sheet user id)

unfoldable pub las_geokey_find : Bytes → ℕ → las_geokey
las_geokey_find file key = geokey_numbers (lookup file key)

unfoldable pub las_geokey_halve : Bytes → ℕ → las_geokey_read
las_geokey_halve file key = read_numbers (lookup_by_halving file key)

-- the numbers, and the output afterwards
unfoldable pub las_release : Bytes → Bytes → Bytes → las_released × Bytes
las_release file sheet out = let r = release sheet file out in (released_numbers r.0, r.1)

-- the numbers, and the list afterwards
unfoldable pub las_cutting_list : Bytes → Bytes → List Span → las_listed × List Span
las_cutting_list file sheet list = let c = cutting_list sheet file list in (listed_numbers c.0, c.1)

-- the numbers, the output and the list afterwards
unfoldable pub las_release_by_list : Bytes → Bytes → Bytes → List Span → (las_released × Bytes) × List Span
las_release_by_list file sheet out list =
    let r = release_by_list sheet file out list in ((released_numbers r.0.0, r.0.1), r.1)

-- the numbers, and the file afterwards
unfoldable pub las_mend : Bytes → las_mended × Bytes
las_mend file = let m = mend file in (mended_numbers m.0, m.1)
