-- Demand 1: a refusal changes nothing lent and has zeros beside its number, and each number is given exactly under its
-- own condition where no earlier one holds. `las_coordinate` and `las_level` cannot refuse. What the program alone
-- gives, 50 and 51, is the first failing check of `input_checks`: the two laws of tables say when.
-- Assumes nothing.
use Rattle.std.specs.Prelude.{◌≡◌, ◌↔◌, ℕ, suc, false, List, ◌++◌, replicate}
use Rattle.fields.specs.Bytes.{Bytes}
use Rattle.fields.specs.Checks.{Check, first_failing, AllClear, Passes, Fails}
use Rattle.points.specs.declared.Point.{Point}
use Rattle.points.specs.Points.{decode_checks}
use Rattle.points.specs.Encoding.{encode_checks, encoded}
use Rattle.lasfile.specs.FileChecks.{file_checks, mend_checks}
use Rattle.reader.specs.Steps.{step_checks}
use Rattle.reader.specs.OnePoint.{point_checks}
use Rattle.sheet.specs.Sheet.{sheet_verdict}
use Rattle.geokeys.specs.GeoKeys.{searched}
use Rattle.geokeys.specs.Halving.{halve}
use Rattle.publicpart.specs.Release.{release}
use Rattle.publicpart.specs.declared.Span.{Span}
use Rattle.publicpart.specs.Cutting.{Refused, cutting_list, release_by_list}
use Rattle.editor.specs.Mend.{mend}
use Rattle.capi.specs.HeaderAnswers.{no_header}
use Rattle.capi.specs.RecordAnswers.{no_record}
use Rattle.capi.specs.PointAnswers.{no_point, given_point}
use Rattle.capi.specs.declared.point.las_point.{las_point}
use Rattle.capi.specs.Interface.{las_check_file, las_check_sheet, las_read_header, las_vlr_step, las_point_at, las_decode, las_encode, las_class_kept, las_class_test, las_record_kept, las_geokey_find, las_geokey_halve, las_release, las_cutting_list, las_release_by_list, las_mend}
use Rattle.theorems.specs.Terms.{needed, refusal, key_refusal}
use Rattle.theorems.specs.Tables.{Given, ByTable, sheet_checks, lookup_checks, halving_checks, release_checks, list_checks, by_list_checks}
use Rattle.theorems.specs.ZeroWhereAccepted.{is_released}

-- a refusal leaves the lent bytes as they were
pub record NothingChanged : Type 0 where
  -- the room of an encoding that gives a number
  pub encode : (format len : ℕ) (q : Point) (room : Bytes) (n : ℕ)
      → (encoded format len q room).0 ≡ Fails n → (encoded format len q room).1 ≡ room
  -- the output of a release that is not accepted, 30 too
  pub release : (sheet file out : Bytes) → is_released (release sheet file out).0 ≡ false
      → (release sheet file out).1 ≡ out
  -- the list of a cutting list that gives a number
  pub cutting_list : (sheet file : Bytes) (list : List Span) (n : ℕ)
      → (cutting_list sheet file list).0 ≡ Refused n → (cutting_list sheet file list).1 ≡ list
  -- output and list of a release by a list that is not accepted, 30 too
  pub release_by_list : (sheet file out : Bytes) (list : List Span)
      → is_released (release_by_list sheet file out list).0.0 ≡ false
      → ((release_by_list sheet file out list).0.1 ≡ out) × ((release_by_list sheet file out list).1 ≡ list)
  -- the file of a mending that gives a number
  pub mend : (file : Bytes) (n : ℕ) → (mend file).0.verdict ≡ Fails n → (mend file).1 ≡ file
  -- the room of `las_encode`, where its number is not 0
  pub las_encode : (format len : ℕ) (p : las_point) (room : Bytes) (n : ℕ)
      → (las_encode format len p room).0 ≡ suc n → (las_encode format len p room).1 ≡ room
  -- the output of `las_release`, where its number is not 0
  pub las_release : (file sheet out : Bytes) (n : ℕ)
      → (las_release file sheet out).0.number ≡ suc n → (las_release file sheet out).1 ≡ out
  -- the list of `las_cutting_list`, where its number is not 0
  pub las_cutting_list : (file sheet : Bytes) (list : List Span) (n : ℕ)
      → (las_cutting_list file sheet list).0.number ≡ suc n → (las_cutting_list file sheet list).1 ≡ list
  -- output and list of `las_release_by_list`, where its number is not 0
  pub las_release_by_list : (file sheet out : Bytes) (list : List Span) (n : ℕ)
      → (las_release_by_list file sheet out list).0.0.number ≡ suc n
      → ((las_release_by_list file sheet out list).0.1 ≡ out) × ((las_release_by_list file sheet out list).1 ≡ list)
  -- the file of `las_mend`, where its number is not 0
  pub las_mend : (file : Bytes) (n : ℕ) → (las_mend file).0.number ≡ suc n → (las_mend file).1 ≡ file

-- a refusal has zeros beside its number
pub record ZerosBeside : Type 0 where
  -- where no header is read
  pub read_header : (file : Bytes) (n : ℕ) → (las_read_header file).number ≡ suc n → las_read_header file ≡ no_header (suc n)
  -- where no record is answered
  pub vlr_step : (file : Bytes) (index position n : ℕ) → (las_vlr_step file index position).number ≡ suc n
      → las_vlr_step file index position ≡ no_record (suc n)
  -- where no point is answered
  pub point_at : (file : Bytes) (index n : ℕ) → (las_point_at file index).number ≡ suc n
      → las_point_at file index ≡ no_point (suc n)
  -- or decoded
  pub decode : (format len : ℕ) (bytes : Bytes) (n : ℕ) → (las_decode format len bytes).number ≡ suc n
      → las_decode format len bytes ≡ no_point (suc n)
  -- where a sheet that is asked about a class does not pass
  pub class_kept : (sheet : Bytes) (class n : ℕ) → (las_class_kept sheet class).number ≡ suc n
      → las_class_kept sheet class ≡ record { number = suc n; kept = 0 }
  -- or is tested for one, with 0 lines
  pub class_test : (sheet : Bytes) (class n : ℕ) → (las_class_test sheet class).number ≡ suc n
      → las_class_test sheet class ≡ record { number = suc n; kept = 0; lines = 0 }
  -- or is asked about a record
  pub record_kept : (sheet user : Bytes) (id n : ℕ) → (las_record_kept sheet user id).number ≡ suc n
      → las_record_kept sheet user id ≡ record { number = suc n; kept = 0 }
  -- where no key is found
  pub geokey_find : (file : Bytes) (key n : ℕ) → (las_geokey_find file key).number ≡ suc n
      → las_geokey_find file key ≡ record { number = suc n; location = 0; value = 0; length = 0 }
  -- or none by halving, 42 to 46 with the entries read
  pub geokey_halve : (file : Bytes) (key n : ℕ) → (las_geokey_halve file key).number ≡ suc n
      → las_geokey_halve file key ≡ key_refusal (suc n) (halve (searched file) key).reads
  -- where a release is refused, 30 with the needed length
  pub release : (file sheet out : Bytes) (n : ℕ) → (las_release file sheet out).0.number ≡ suc n
      → (las_release file sheet out).0 ≡ refusal (suc n) (needed sheet file)
  -- where no list is filled
  pub cutting_list : (file sheet : Bytes) (list : List Span) (n : ℕ)
      → (las_cutting_list file sheet list).0.number ≡ suc n
      → (las_cutting_list file sheet list).0 ≡ record { number = suc n; lines = 0 }
  -- where a release by a list is refused, 30 with the needed length, 31 with zeros
  pub release_by_list : (file sheet out : Bytes) (list : List Span) (n : ℕ)
      → (las_release_by_list file sheet out list).0.0.number ≡ suc n
      → (las_release_by_list file sheet out list).0.0 ≡ refusal (suc n) (needed sheet file)
  -- where a file is not mended, which marks nothing
  pub mend : (file : Bytes) (n : ℕ) → (las_mend file).0.number ≡ suc n
      → (las_mend file).0 ≡ record { number = suc n; marks = replicate 12 0 }

-- any table of checks
pub record TableLaws : Type 0 where
  -- gives a number exactly where its check fails and none before it does
  pub given : (cs : List Check) (n : ℕ) → (first_failing cs ≡ Fails n) ↔ Given cs n
  -- passes exactly where every check is clear
  pub passes : (cs : List Check) → (first_failing cs ≡ Passes) ↔ AllClear cs

-- each exported function gives the numbers of one table
pub record EachNumber : Type 0 where
  -- 1 to 10
  pub check_file : (file : Bytes) → ByTable (las_check_file file) (file_checks file)
  -- 20 to 24
  pub check_sheet : (sheet : Bytes) → ByTable (las_check_sheet sheet) (sheet_checks sheet)
  -- 1 to 10
  pub read_header : (file : Bytes) → ByTable (las_read_header file).number (file_checks file)
  -- 1 to 10, then 18
  pub vlr_step : (file : Bytes) (index position : ℕ)
      → ByTable (las_vlr_step file index position).number (file_checks file ++ step_checks file index position)
  -- 1 to 10, then 11
  pub point_at : (file : Bytes) (index : ℕ)
      → ByTable (las_point_at file index).number (file_checks file ++ point_checks file index)
  -- 12
  pub decode : (format len : ℕ) (bytes : Bytes)
      → ByTable (las_decode format len bytes).number (decode_checks format len bytes)
  -- 12, then 13
  pub encode : (format len : ℕ) (p : las_point) (room : Bytes)
      → ByTable (las_encode format len p room).0 (encode_checks format len (given_point p) room)
  -- 20 to 24
  pub class_kept : (sheet : Bytes) (class : ℕ) → ByTable (las_class_kept sheet class).number (sheet_checks sheet)
  -- 20 to 24
  pub class_test : (sheet : Bytes) (class : ℕ) → ByTable (las_class_test sheet class).number (sheet_checks sheet)
  -- 20 to 24
  pub record_kept : (sheet user : Bytes) (id : ℕ) → ByTable (las_record_kept sheet user id).number (sheet_checks sheet)
  -- 1 to 10, then 40 to 46
  pub geokey_find : (file : Bytes) (key : ℕ)
      → ByTable (las_geokey_find file key).number (file_checks file ++ lookup_checks file key)
  -- 1 to 10, then 40 to 46
  pub geokey_halve : (file : Bytes) (key : ℕ)
      → ByTable (las_geokey_halve file key).number (file_checks file ++ halving_checks file key)
  -- 1 to 10, then 20 to 24, then 30
  pub release : (file sheet out : Bytes) → ByTable (las_release file sheet out).0.number (release_checks sheet file out)
  -- 1 to 10, then 20 to 24, then 31
  pub cutting_list : (file sheet : Bytes) (list : List Span)
      → ByTable (las_cutting_list file sheet list).0.number (list_checks sheet file list)
  -- 1 to 10, then 20 to 24, then 31, then 30
  pub release_by_list : (file sheet out : Bytes) (list : List Span)
      → ByTable (las_release_by_list file sheet out list).0.0.number (by_list_checks sheet file out list)
  -- 1 to 8, then 10
  pub mend : (file : Bytes) → ByTable (las_mend file).0.number (mend_checks file)

pub record Demand1 : Type 0 where
  -- a refusal changes nothing lent
  pub nothing_changed : NothingChanged
  -- and has zeros beside its number
  pub zeros_beside : ZerosBeside
  -- what any table of checks gives
  pub tables : TableLaws
  -- a sheet's verdict, which goes line by line, is the first failing check of one table
  pub sheet_verdict : (sheet : Bytes) → sheet_verdict sheet ≡ first_failing (sheet_checks sheet)
  -- what each exported function gives
  pub each_number : EachNumber
