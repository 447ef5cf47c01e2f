-- An answer's number is 0 exactly where it is accepted.
-- Assumes nothing.
use Rattle.std.specs.Prelude.{◌≡◌, ℕ, Bool, true, false, List, eqb}
use Rattle.fields.specs.Bytes.{Bytes}
use Rattle.fields.specs.Checks.{Verdict}
use Rattle.fields.specs.Checks as verdict
use Rattle.points.specs.Points.{decoded, Decoded}
use Rattle.points.specs.Encoding.{encoded}
use Rattle.points.specs.Points as point
use Rattle.lasfile.specs.FileChecks.{file_verdict}
use Rattle.reader.specs.Header.{header_read, HeaderRead}
use Rattle.reader.specs.Header as header
use Rattle.reader.specs.Steps.{step_of, Step}
use Rattle.reader.specs.Steps as step
use Rattle.reader.specs.OnePoint.{point_at_of, PointAt}
use Rattle.reader.specs.OnePoint as place
use Rattle.sheet.specs.Sheet.{sheet_verdict}
use Rattle.geokeys.specs.GeoKeys.{lookup, GeoKey}
use Rattle.geokeys.specs.Halving.{lookup_by_halving}
use Rattle.geokeys.specs.GeoKeys as key
use Rattle.publicpart.specs.Release.{release, Answer}
use Rattle.publicpart.specs.Cutting.{cutting_list, release_by_list, Listed}
use Rattle.publicpart.specs.declared.Span.{Span}
use Rattle.publicpart.specs.Cutting as listed
use Rattle.publicpart.specs.Release as answer
use Rattle.editor.specs.Mend.{mend}
use Rattle.capi.specs.PointAnswers.{given_point}
use Rattle.capi.specs.declared.point.las_point.{las_point}
use Rattle.capi.specs.Interface.{las_check_file, las_check_sheet, las_read_header, las_vlr_step, las_point_at, las_decode, las_encode, las_class_kept, las_class_test, las_record_kept, las_geokey_find, las_geokey_halve, las_release, las_cutting_list, las_release_by_list, las_mend}

-- ---- which answers are accepted

unfoldable pub is_passing : Verdict → Bool
is_passing verdict.Passes = true
is_passing (verdict.Fails n) = false

unfoldable pub has_fields : HeaderRead → Bool
has_fields (header.Fields h) = true
has_fields (header.Refused n) = false

unfoldable pub has_record : Step → Bool
has_record (step.Record r next) = true
has_record (step.Refused n) = false

unfoldable pub has_point : PointAt → Bool
has_point (place.At at p) = true
has_point (place.Refused n) = false

unfoldable pub is_decoded : Decoded → Bool
is_decoded (point.Fields p) = true
is_decoded (point.Refused n) = false

unfoldable pub is_found : GeoKey → Bool
is_found (key.Value v) = true
is_found (key.Double bits) = true
is_found (key.Text at n) = true
is_found (key.Refused n) = false

unfoldable pub is_released : Answer → Bool
is_released (answer.Released n p r) = true
is_released (answer.Short n) = false
is_released (answer.Refused n) = false

unfoldable pub is_listed : Listed → Bool
is_listed (listed.Lines n) = true
is_listed (listed.Refused n) = false

-- ---- number by number: 0 exactly where

unfoldable pub is_zero : ℕ → Bool
is_zero n = eqb n 0

pub record ZeroWhereAccepted : Type 0 where
  -- a file passes
  pub check_file : (file : Bytes) → is_zero (las_check_file file) ≡ is_passing (file_verdict file)
  -- a sheet passes
  pub check_sheet : (sheet : Bytes) → is_zero (las_check_sheet sheet) ≡ is_passing (sheet_verdict sheet)
  -- a header is read
  pub read_header : (file : Bytes) → is_zero (las_read_header file).number ≡ has_fields (header_read file)
  -- a step answers a record
  pub vlr_step : (file : Bytes) (index position : ℕ)
      → is_zero (las_vlr_step file index position).number ≡ has_record (step_of file index position)
  -- a point is answered
  pub point_at : (file : Bytes) (index : ℕ) → is_zero (las_point_at file index).number ≡ has_point (point_at_of file index)
  -- a record is decoded
  pub decode : (format len : ℕ) (bytes : Bytes)
      → is_zero (las_decode format len bytes).number ≡ is_decoded (decoded format len bytes)
  -- a point is encoded
  pub encode : (format len : ℕ) (p : las_point) (room : Bytes)
      → is_zero (las_encode format len p room).0 ≡ is_passing (encoded format len (given_point p) room).0
  -- a sheet that is asked about a class passes
  pub class_kept : (sheet : Bytes) (class : ℕ)
      → is_zero (las_class_kept sheet class).number ≡ is_passing (sheet_verdict sheet)
  -- a sheet that is tested for a class passes
  pub class_test : (sheet : Bytes) (class : ℕ)
      → is_zero (las_class_test sheet class).number ≡ is_passing (sheet_verdict sheet)
  -- a sheet that is asked about a record passes
  pub record_kept : (sheet user : Bytes) (id : ℕ)
      → is_zero (las_record_kept sheet user id).number ≡ is_passing (sheet_verdict sheet)
  -- a key is found
  pub geokey_find : (file : Bytes) (k : ℕ) → is_zero (las_geokey_find file k).number ≡ is_found (lookup file k)
  -- a key is found by halving
  pub geokey_halve : (file : Bytes) (k : ℕ)
      → is_zero (las_geokey_halve file k).number ≡ is_found (lookup_by_halving file k).found
  -- a release is accepted
  pub release : (file sheet out : Bytes)
      → is_zero (las_release file sheet out).0.number ≡ is_released (release sheet file out).0
  -- a list is filled
  pub cutting_list : (file sheet : Bytes) (list : List Span)
      → is_zero (las_cutting_list file sheet list).0.number ≡ is_listed (cutting_list sheet file list).0
  -- a release by a list is accepted
  pub release_by_list : (file sheet out : Bytes) (list : List Span)
      → is_zero (las_release_by_list file sheet out list).0.0.number ≡ is_released (release_by_list sheet file out list).0.0
  -- a file is mended
  pub mend : (file : Bytes) → is_zero (las_mend file).0.number ≡ is_passing (mend file).0.verdict
