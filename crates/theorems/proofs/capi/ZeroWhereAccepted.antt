-- An answer's number is 0 exactly where it is accepted.
-- Assumes nothing.
use mathlib.Core.Path.{◌≡◌, refl, ap, ◌∙◌}
use Prim.Native.Nat.{ℕ}
use mathlib.Core.Bool.{Bool, true, false}
use mathlib.Core.List.{List}
use mathlib.Core.Option.{Option, none, some}
use lib.Dec.{eqb, ltb}
use lib.ListN.{length}
use Rattle.fields.specs.Bytes.{Bytes}
use Rattle.fields.specs.Checks.{fail_if, number_of, then, Verdict, Passes, Fails}
use Rattle.fields.proofs.CheckLaws.{Without}
use Rattle.points.specs.Points as points
use Rattle.points.specs.Encoding as encoding
use Rattle.points.specs.declared.Point.{Point}
use Rattle.lasfile.specs.FileChecks.{file_verdict, mend_verdict}
use Rattle.reader.specs.Header as header
use Rattle.reader.specs.declared.header.Header.{Header}
use Rattle.reader.specs.Steps.{step_checks, record_if, step_of}
use Rattle.reader.specs.declared.cursor.RecordPlaces.{RecordPlaces}
use Rattle.reader.specs.declared.cursor.VlrCursor.{VlrCursor}
use Rattle.reader.specs.OnePoint.{point_checks, point_if, point_at_of}
use Rattle.sheet.specs.Sheet.{sheet_verdict}
use Rattle.sheet.specs.Keeping.{kept_under}
use Rattle.geokeys.specs.GeoKeys.{directory_checks, entry_checks, double_checks, text_checks, answer_if, either, double_in, text_in, in_parameters, from_entry, location_of, payload_at, entry_of, projection_place, directory_of, directory_verdict, searched, search_verdict, lookup, GeoKey}
use Rattle.geokeys.specs.Halving.{halve}
use Rattle.geokeys.proofs.KeyReadLaws.{found_is}
use Rattle.publicpart.specs.Release.{Outcome, refuse_or, short_or, accepted, room_or, release}
use Rattle.publicpart.specs.declared.Span.{Span}
use Rattle.publicpart.specs.Cutting.{cutting_lines, list_verdict, list_under, cutting_list, by_list_under, release_by_list}
use Rattle.publicpart.proofs.CuttingLaws.{by_list_is}
use Rattle.editor.specs.Mend.{mend_by, mend}
use Rattle.capi.specs.Answers.{released_numbers, listed_numbers, kept_numbers, mended_numbers}
use Rattle.capi.specs.RecordAnswers.{found_record, no_record, record_numbers, geokey_numbers, read_numbers}
use Rattle.capi.specs.PointAnswers.{found_point, no_point, point_numbers, decoded_numbers}
use Rattle.capi.specs.HeaderAnswers.{found_header, no_header, header_numbers}
use Rattle.capi.specs.Interface.{las_check_file, las_check_sheet, las_read_header, las_vlr_step, las_point_at, las_decode, las_encode, las_class_kept, las_class_test, las_record_kept, las_geokey_find, las_geokey_halve, las_release, las_cutting_list, las_release_by_list, las_mend}
use Rattle.theorems.specs.ZeroWhereAccepted.{is_passing, has_fields, has_record, has_point, is_decoded, is_found, is_released, is_listed, is_zero, ZeroWhereAccepted}
use Rattle.theorems.proofs.sheet.TestLaws.{numbers_under}
use Rattle.theorems.proofs.capi.NumberLaws.{Numbered, first_numbered, then_numbered, file_numbered, mend_numbered, sheet_numbered}

-- ---- an answer that a verdict decides

header_if : (v : Verdict) (h : Header) → Numbered v
    → is_zero (header_numbers (header.header_if v h)).number ≡ has_fields (header.header_if v h)
unfolding header.header_if header_numbers found_header no_header has_fields Numbered is_passing number_of is_zero
header_if Passes h e = refl
header_if (Fails n) h e = e

record_if_lem : (v : Verdict) (r : RecordPlaces) (next : VlrCursor) → Numbered v
    → is_zero (record_numbers (record_if v r next)).number ≡ has_record (record_if v r next)
unfolding record_if record_numbers found_record no_record has_record Numbered is_passing number_of is_zero
record_if_lem Passes r next e = refl
record_if_lem (Fails n) r next e = e

point_if_lem : (v : Verdict) (at : ℕ) (p : Point) → Numbered v
    → is_zero (point_numbers (point_if v at p)).number ≡ has_point (point_if v at p)
unfolding point_if point_numbers found_point no_point has_point Numbered is_passing number_of is_zero
point_if_lem Passes at p e = refl
point_if_lem (Fails n) at p e = e

decoded_if : (v : Verdict) (p : Point) → Numbered v
    → is_zero (decoded_numbers (points.fields_if v p)).number ≡ is_decoded (points.fields_if v p)
unfolding points.fields_if decoded_numbers found_point no_point is_decoded Numbered is_passing number_of is_zero
decoded_if Passes p e = refl
decoded_if (Fails n) p e = e

stored_if : (v : Verdict) (b room : Bytes) → Numbered v → Numbered (encoding.stored_if v b room).0
unfolding encoding.stored_if
stored_if Passes b room e = e
stored_if (Fails n) b room e = e

kept_if : (v : Verdict) (kept : Bool) → Numbered v → is_zero (kept_numbers (kept_under v kept)).number ≡ is_passing v
unfolding kept_under kept_numbers Numbered is_passing number_of is_zero
kept_if Passes true e = refl
kept_if Passes false e = refl
kept_if (Fails n) kept e = e

-- ---- a lookup

NumberedKey : GeoKey → Type 0
NumberedKey g = is_zero (geokey_numbers g).number ≡ is_found g

answer_if_lem : (v : Verdict) (g : GeoKey) → Numbered v → NumberedKey g → NumberedKey (answer_if v g)
unfolding NumberedKey answer_if geokey_numbers is_found Numbered is_passing number_of
answer_if_lem Passes g e h = h
answer_if_lem (Fails n) g e h = e

either_of : (b : Bool) (g h : GeoKey) → NumberedKey g → NumberedKey h → NumberedKey (either b g h)
unfolding either
either_of true g h eg eh = eg
either_of false g h eg eh = eh

double_in_lem : (entry parameters : Bytes) → NumberedKey (double_in entry parameters)
unfolding double_in NumberedKey geokey_numbers is_found is_zero Without
double_in_lem entry parameters = answer_if_lem _ _ (first_numbered (double_checks entry parameters) (refl, tt)) refl

text_in_lem : (entry : Bytes) (at : ℕ) (parameters : Bytes) → NumberedKey (text_in entry at parameters)
unfolding text_in NumberedKey geokey_numbers is_found is_zero Without
text_in_lem entry at parameters = answer_if_lem _ _ (first_numbered (text_checks entry parameters) (refl, tt)) refl

in_parameters_lem : (s entry : Bytes) (at : Option ℕ) → NumberedKey (in_parameters s entry at)
unfolding in_parameters NumberedKey geokey_numbers is_found is_zero
in_parameters_lem s entry none = refl
in_parameters_lem s entry (some at) =
    either_of (eqb (location_of entry) 34736) _ _ (double_in_lem entry (payload_at s at)) (text_in_lem entry at (payload_at s at))

from_entry_lem : (s : Bytes) (entry : Option Bytes) → NumberedKey (from_entry s entry)
unfolding from_entry NumberedKey geokey_numbers is_found is_zero Without
from_entry_lem s none = refl
from_entry_lem s (some entry) =
    answer_if_lem _ _ (first_numbered (entry_checks entry) (refl, (refl, tt)))
    (either_of (eqb (location_of entry) 0) _ _ refl (in_parameters_lem s entry (projection_place s (location_of entry))))

directory_numbered : (directory : Option Bytes) → Numbered (directory_verdict directory)
unfolding directory_verdict Numbered is_zero is_passing number_of Without
directory_numbered none = refl
directory_numbered (some directory) = first_numbered (directory_checks directory) (refl, tt)

-- whatever the search that found the entry
found : (s : Bytes) (entry : Option Bytes) → NumberedKey (answer_if (search_verdict s) (from_entry s entry))
unfolding search_verdict
found s entry =
    answer_if_lem (then (file_verdict s) (directory_verdict (directory_of s))) _ (then_numbered (file_verdict s) _ (file_numbered s) (directory_numbered (directory_of s)))
    (from_entry_lem s entry)

-- ---- a release

NumberedOutcome : Outcome → Type 0
NumberedOutcome o = is_zero (released_numbers o.0).number ≡ is_released o.0

refuse_or_lem : (v : Verdict) (out : Bytes) (later : Outcome) → Numbered v → NumberedOutcome later
    → NumberedOutcome (refuse_or v out later)
unfolding NumberedOutcome refuse_or released_numbers is_released Numbered is_passing number_of
refuse_or_lem Passes out later e h = h
refuse_or_lem (Fails n) out later e h = e

short_or_lem : (b : Bool) (n : ℕ) (out : Bytes) (later : Outcome) → NumberedOutcome later
    → NumberedOutcome (short_or b n out later)
unfolding NumberedOutcome short_or released_numbers is_released is_zero
short_or_lem true n out later h = refl
short_or_lem false n out later h = h

release_numbered : (sheet s out : Bytes) → NumberedOutcome (release sheet s out)
unfolding release room_or accepted NumberedOutcome released_numbers is_released is_zero
release_numbered sheet s out =
    refuse_or_lem (then (file_verdict s) (sheet_verdict sheet)) out _
    (then_numbered (file_verdict s) (sheet_verdict sheet) (file_numbered s) (sheet_numbered sheet))
    (short_or_lem _ _ out _ refl)

-- ---- a cutting list, and a release by it

short_list : (b : Bool) → Numbered (fail_if b 31 Passes)
unfolding fail_if Numbered is_passing number_of is_zero
short_list true = refl
short_list false = refl

list_numbered : (sheet s : Bytes) (room : ℕ) → Numbered (list_verdict sheet s room)
unfolding list_verdict
list_numbered sheet s room =
    then_numbered (then (file_verdict s) (sheet_verdict sheet)) _ (then_numbered (file_verdict s) (sheet_verdict sheet) (file_numbered s) (sheet_numbered sheet)) (short_list (ltb room _))

listed_if : (v : Verdict) (lines list : List Span) → Numbered v → is_zero (listed_numbers (list_under v lines list).0).number ≡ is_listed (list_under v lines list).0
unfolding list_under listed_numbers is_listed Numbered is_passing number_of is_zero
listed_if Passes lines list e = refl
listed_if (Fails n) lines list e = e

by_list_if : (v : Verdict) (out : Bytes) (list : List Span) (later : Outcome × List Span) → Numbered v → NumberedOutcome later.0
    → NumberedOutcome (by_list_under v out list later).0
unfolding NumberedOutcome by_list_under released_numbers is_released Numbered is_passing number_of
by_list_if Passes out list later e h = h
by_list_if (Fails n) out list later e h = e

by_list_numbered : (sheet s out : Bytes) (list : List Span) → NumberedOutcome (release_by_list sheet s out list).0
unfolding room_or accepted NumberedOutcome released_numbers is_released is_zero
by_list_numbered sheet s out list =
    rw (by_list_is sheet s out list)
    (by_list_if (list_verdict sheet s (length list)) out list _ (list_numbered sheet s (length list)) (short_or_lem _ _ out _ refl))

mend_by_lem : (v : Verdict) (s : Bytes) → Numbered v → is_zero (mended_numbers (mend_by v s).0).number ≡ is_passing (mend_by v s).0.verdict
unfolding mend_by mended_numbers Numbered
mend_by_lem Passes s e = e
mend_by_lem (Fails n) s e = e

-- ---- all of them

pub zero_where_accepted : ZeroWhereAccepted
unfolding las_check_file las_check_sheet las_read_header las_vlr_step las_point_at las_decode las_encode las_class_kept las_class_test las_record_kept las_geokey_find las_geokey_halve read_numbers lookup las_release las_cutting_list las_release_by_list las_mend cutting_list mend
    header.header_read step_of point_at_of points.decoded encoding.encoded points.decode_checks encoding.encode_checks Numbered NumberedKey NumberedOutcome Without is_zero
zero_where_accepted =
    record {
      check_file = file_numbered;
      check_sheet = sheet_numbered;
      read_header = λ file. header_if (file_verdict file) _ (file_numbered file);
      vlr_step =
          λ file index position.
          record_if_lem _ _ _ (then_numbered (file_verdict file) _ (file_numbered file) (first_numbered (step_checks file index position) (refl, tt)));
      point_at =
          λ file index.
          point_if_lem _ _ _ (then_numbered (file_verdict file) _ (file_numbered file) (first_numbered (point_checks file index) (refl, tt)));
      decode = λ format len bytes. decoded_if _ _ (first_numbered (points.decode_checks format len bytes) (refl, tt));
      encode = λ format len p room. stored_if _ _ room (first_numbered (encoding.encode_checks format len _ room) (refl, (refl, tt)));
      class_kept = λ sheet class. kept_if (sheet_verdict sheet) _ (sheet_numbered sheet);
      class_test =
          λ sheet class. ap is_zero (numbers_under (sheet_verdict sheet) _ _).0 ∙ kept_if (sheet_verdict sheet) _ (sheet_numbered sheet);
      record_kept = λ sheet user id. kept_if (sheet_verdict sheet) _ (sheet_numbered sheet);
      geokey_find = λ file k. found file (entry_of (searched file) k);
      geokey_halve = λ file k. rw (found_is file k) (found file (halve (searched file) k).entry);
      release = λ file sheet out. release_numbered sheet file out;
      cutting_list =
          λ file sheet list. listed_if (list_verdict sheet file (length list)) (cutting_lines sheet file) list (list_numbered sheet file (length list));
      release_by_list = λ file sheet out list. by_list_numbered sheet file out list;
      mend = λ file. mend_by_lem (mend_verdict file) file (mend_numbered file);
    }
