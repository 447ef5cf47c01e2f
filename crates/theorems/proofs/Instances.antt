-- The theorems applied to the samples' files, sheets and points: what they ask for is computed, and the rest is their
-- word.
-- Assumes nothing.
use mathlib.Core.Path.{◌≡◌, refl, sym, ap, subst, ◌∙◌}
use mathlib.Core.Logic.{inl, inr, ◌↔◌, ◌⊎◌}
use Prim.Native.Nat.{ℕ, zero, suc, ◌+◌, ◌-◌, ◌/◌, ◌^◌, ◌≤◌, min}
use native.Mathlib.Omega.{arith}
use mathlib.Core.Bool.{Bool, true, false, not, ◌&&◌}
use mathlib.Core.List.{[], ◌∷◌, ◌++◌}
use borrow.Author.Tests.{le-leb, lt-leb}
use lib.Dec.{T, T_not, eqb, eqb_refl, ltb, ltb→lt, lit≤, lit<}
use lib.ListN.{length, drop, get_or, replicate}
use lib.IntN.{ℤ, pos, negsuc, ◌+ℤ◌, ◌*ℤ◌}
use lib.Ieee.{binary64, of_int, fin}
use lib.Ieee.Fits.{and_l, and_r}
use Rattle.fields.specs.Lists.{All, kept, total}
use Rattle.fields.specs.Bytes.{Bytes, AllBytes, part, num, zeros}
use Rattle.fields.specs.Checks.{number_of, Passes, Fails}
use Rattle.points.specs.Encoding.{InRange, large, encode_checks, stored_if, encoded}
use Rattle.points.specs.Points.{Fields, decoded}
use Rattle.points.specs.Formats.{format_size}
use Rattle.points.specs.Raw.{class_of, synthetic_of, key_point_of, withheld_of, return_of}
use Rattle.scaling.specs.Scaling.{coordinate_of, scaling_of, good_scaling}
use Rattle.lasfile.specs.Inputs.{input_checks}
use Rattle.lasfile.specs.HeaderFields.{header_size, point_offset, record_count, format, record_length, point_count}
use Rattle.lasfile.specs.Records.{places, written_length, SoundRecord}
use Rattle.sheet.specs.Sheet.{kind, sheet_verdict, lines}
use Rattle.publicpart.specs.Public.{carried_of, contents, public_of}
use Rattle.publicpart.specs.Release.{release}
use Rattle.capi.specs.Interface.{las_check_file, las_check_sheet, las_read_header, las_vlr_step, las_point_at, las_decode, las_encode, las_class_kept, las_class_test, las_record_kept, las_geokey_find, las_release, las_cutting_list, las_release_by_list, las_mend}
use Rattle.reader.specs.Header as header
use Rattle.reader.specs.Header.{header_read}
use Rattle.reader.specs.Steps.{record_if, step_of}
use Rattle.reader.specs.OnePoint.{point_if, point_at_of}
use Rattle.sheet.specs.Keeping.{kept_under, keeps_class, keeps_place, keeps_record, contains_class, unless, up_to_first, lines_for, tested_under, class_test}
use Rattle.sheet.specs.Tests as tested
use Rattle.fields.specs.Text.{cut}
use Rattle.geokeys.specs.GeoKeys.{first, or_later, is_projection, projection_place, answer_if, payload_in, directory_of, directory_verdict, search_verdict, lookup}
use Rattle.capi.specs.Answers.{listed_numbers, kept_numbers, tested_numbers, mended_numbers}
use Rattle.publicpart.specs.Cutting as listed
use Rattle.publicpart.specs.Cutting.{named, payload_line, payload_lines, strides, piece_lines, record_lines, point_lines, cutting_lines, fill, list_verdict, list_under, cutting_list, record_named, public_by, fill_unless, by_list_under, release_by_list}
use Rattle.lasfile.specs.FileChecks.{file_verdict, mend_verdict}
use Rattle.editor.specs.Mend.{whole_records, mended_count, mended_points, mended, changed, marks, mend_by, mend}
use Rattle.capi.specs.HeaderAnswers.{header_numbers, no_header}
use Rattle.capi.specs.RecordAnswers.{record_numbers, no_record, geokey_numbers}
use Rattle.capi.specs.PointAnswers.{point_numbers, no_point, decoded_numbers}
use Rattle.tally.specs.Tally.{no_tally}
use Rattle.theorems.specs.ZeroWhereAccepted.{is_released}
use Rattle.theorems.specs.Terms.{Good, needed, refusal, Accepted}
use Rattle.theorems.specs.Coordinates.{axis_x, Fits32, Times, Exact}
use Rattle.theorems.specs.Demand3.{Same}
use Rattle.theorems.specs.Recognised.{OutputUnder, GivesItself}
use Rattle.theorems.specs.ReleasedFile.{points_kept}
use Rattle.theorems.specs.BoundsOfKept.{Binned}
use Rattle.theorems.specs.Demand1.{NothingChanged, ZerosBeside, EachNumber}
use Rattle.theorems.specs.Mending.{Mends, InNoField}
use Rattle.theorems.specs.Samples.{sheet3, sheet4, sheet5, sheet6, point7, used, half, ten, file9}
use Rattle.theorems.specs.Instances.{other9, filled, output9, OfOutput9, fields7, numbers7, one_record, sheet_a7, sheet_a22, sheet64, sheet_both, unfilled, NothingChangedMet, ZerosBesideMet, EachNumberMet, ExactlyMet, ShortMet, AgainMet, RecognisedMet, CompleteMet, NeverLongerMet, BoundsOfKeptMet, SheetsMet, ClassTestsMet, FilesMet, VisitsMet, RoundTripsMet, CoordinatesMet, OwnBitsMet, long7, FirstBytesMet, cut9, pointless9, MendingMet, ab, a_b, sheet_spaces7, named9, TextsMet, from, second9, first9, ClassesMet}
use Rattle.theorems.proofs.FirstBytes.{first_bytes}
use Rattle.theorems.proofs.Samples.{computed}
use Rattle.theorems.proofs.Demand1.{demand1}
use Rattle.theorems.proofs.Demand3.{demand3}
use Rattle.theorems.proofs.Recognised.{recognised}
use Rattle.theorems.proofs.ReleasedFile.{complete}
use Rattle.theorems.proofs.NeverLonger.{never_longer}
use Rattle.theorems.proofs.BoundsOfKept.{bounds_of_kept}
use Rattle.theorems.proofs.Files.{files}
use Rattle.theorems.proofs.Texts.{plain, texts}
use Rattle.theorems.specs.Texts.{Plain, IsCut}
use Rattle.theorems.specs.Classes.{not_withheld}
use Rattle.theorems.specs.ClassTests.{FirstThat}
use Rattle.theorems.proofs.Classes.{classified, kept_by_class, none_withheld}
use Rattle.theorems.proofs.Mending.{untouched, marked, right_about_points, mended_twice, keeps_release}
use Rattle.theorems.proofs.sheet.SheetLaws.{lines_are}
use Rattle.theorems.proofs.sheet.KeepingLaws.{kept_by_lines}
use Rattle.theorems.proofs.sheet.TestLaws.{lines_looked_at, says_what_is_kept}
use Rattle.theorems.proofs.reader.Visits.{stepping}
use Rattle.theorems.proofs.points.RoundTrips.{round_trips}
use Rattle.theorems.proofs.scaling.CoordinateTheorems.{coordinates}
use Rattle.theorems.proofs.capi.OwnBits.{own_bits}

-- ---- what the theorems ask for

unfoldable pub all_small : Bytes → Bool
all_small [] = true
all_small (b ∷ bs) = ltb b 256 && all_small bs

pub all_bytes : (s : Bytes) → T (all_small s) → AllBytes s
unfolding all_small
all_bytes [] t i = omega arith
all_bytes (b ∷ bs) t zero = ltb→lt b 256 (and_l (ltb b 256) (all_small bs) t)
all_bytes (b ∷ bs) t (suc i) = all_bytes bs (and_r (ltb b 256) (all_small bs) t) i

lengths : (length file9 ≡ 347) × (length other9 ≡ 350)
unfolding computed
lengths = (refl, refl)

pub good9 : Good file9
unfolding computed all_small
good9 = record { bytes = all_bytes file9 tt; passes = refl }

pub other_good9 : Good other9
unfolding computed all_small
other_good9 = record { bytes = all_bytes other9 tt; passes = refl }

pub sheet_passes9 : sheet_verdict sheet3 ≡ Passes
unfolding computed
sheet_passes9 = refl

pub one_public_part : public_of sheet3 file9 ≡ public_of sheet3 other9
unfolding computed
one_public_part = refl

pub needed9 : (needed sheet3 file9 ≡ 255) × (needed sheet3 other9 ≡ 255)
unfolding computed
needed9 = (refl, refl)

accepted9 : Accepted sheet3 file9 (filled 7) 255 1 0
unfolding computed
accepted9 = record { bytes = good9.bytes; answer = refl }

-- ---- demand 3

exactly9 : Same (release sheet3 file9 (filled 7)) (release sheet3 other9 (filled 9))
    ↔ (public_of sheet3 file9 ≡ public_of sheet3 other9)
exactly9 =
    demand3.exactly sheet3 file9 other9 (filled 7) (filled 9) sheet_passes9 good9 other_good9 refl
    (omega (arith, needed9.0)) (omega (arith, needed9.1))

pub exactly_met : ExactlyMet
exactly_met =
    record {
      files_differ = λ e. omega (arith, ap length e, lengths.0, lengths.1);
      outputs_differ = λ e. let z : ◌≡◌ {A = ℕ} 7 9 = cc in omega arith;
      same = exactly9.1 one_public_part;
      one_public_part = exactly9.0 (exactly9.1 one_public_part);
    }

pub short_met : ShortMet
short_met =
    record {
      short =
          rw needed9.0 at
          (demand3.short sheet3 file9 other9 (used 254) (zeros 254) sheet_passes9 good9 other_good9 refl one_public_part
          (omega (arith, needed9.0)));
    }

pub again_met : AgainMet
again_met =
    record {
      again_shorter = demand3.again sheet3 file9 (filled 7) (used 260) 255 1 0 accepted9 (lit≤ tt);
      again_longer = demand3.again sheet3 file9 (filled 7) (used 400) 255 1 0 accepted9 (lit≤ tt);
      again_same = demand3.again_same sheet3 file9 (filled 7) (filled 9) 255 1 0 accepted9 refl;
    }

-- ---- a released file

pub complete_met : CompleteMet
complete_met =
    record {
      holds = complete.holds sheet3 file9 (filled 7) 255 1 0 accepted9;
      counted = complete.counted sheet3 file9 (filled 7) 255 1 0 accepted9;
      rest = complete.rest sheet3 file9 (filled 7) 255 1 0 accepted9;
    }

pub never_longer_met : NeverLongerMet
never_longer_met =
    record {
      no_longer = never_longer.no_longer sheet3 file9 (filled 7) 255 1 0 accepted9;
      passes = never_longer.passes sheet3 file9 (filled 7) 255 1 0 accepted9;
      room = never_longer.room sheet3 file9 (used 347) sheet_passes9 good9 (omega (arith, lengths.0));
    }

-- under the empty sheet no point is kept
nothing9 : Accepted [] file9 (used 227) 227 0 0
unfolding computed
nothing9 = record { bytes = good9.bytes; answer = refl }

binned9 : OfOutput9 (λ out. Binned file9 out (points_kept sheet3 file9))
binned9 = bounds_of_kept.binned sheet3 file9 (filled 7) 255 1 0 accepted9

-- one kept point has return number 1
first_returns9 : length (kept (λ p. eqb (return_of (format file9) p) 1) (points_kept sheet3 file9)) ≡ 1
unfolding computed
first_returns9 = refl

pub bounds_of_kept_met : BoundsOfKeptMet
bounds_of_kept_met =
    record {
      bounded = bounds_of_kept.bounded sheet3 file9 (filled 7) 255 1 0 accepted9 (lit≤ tt) axis_x;
      no_points = bounds_of_kept.no_points [] file9 (used 227) 227 0 0 nothing9 refl;
      binned = binned9;
      first_bin = (
        binned9.0.each 1 (lit≤ tt) (lit≤ tt) ∙ first_returns9,
        binned9.1.each 1 (lit≤ tt) (lit≤ tt) ∙ first_returns9,
      );
    }

output_bytes9 : AllBytes output9
unfolding computed all_small
output_bytes9 = all_bytes output9 tt

output_length9 : length (filled 9) ≡ length output9
unfolding computed
output_length9 = refl

pub recognised_met : RecognisedMet
recognised_met =
    record {
      gives_itself = iff.0 came_out;
      came_out = iff.1 (iff.0 came_out);
    }
  where
    came_out : OutputUnder sheet3 output9
    came_out = record { source = file9; room = filled 7; n = 255; points = 1; records = 0; accepted = accepted9; is = inl refl }

    iff : OutputUnder sheet3 output9 ↔ GivesItself sheet3 output9 (filled 9)
    iff = recognised.recognised sheet3 output9 (filled 9) output_bytes9 output_length9

-- ---- demand 1

-- where this is unfolded, what is said of lists is
unfoldable pub lists_computed : Unit {0}
unfolding named payload_line payload_lines strides piece_lines record_lines point_lines cutting_lines fill list_verdict list_under cutting_list record_named public_by fill_unless by_list_under release_by_list
lists_computed = tt

-- what the functions give, by computing
pub record ComputedNumbers : Type 0 where
  pub encode : (encoded 0 20 fields7 (used 19)).0 ≡ Fails 12
  pub las_encode : (las_encode 0 20 numbers7 (used 19)).0 ≡ 12
  pub release : is_released (release sheet3 file9 (used 254)).0 ≡ false
  pub las_release_number : (las_release file9 sheet3 (used 254)).0.number ≡ 30
  pub check_file : las_check_file (zeros 226) ≡ 1
  pub check_sheet : las_check_sheet sheet4 ≡ 23
  pub read_header : (las_read_header (zeros 227)).number ≡ 2
  pub vlr_step : (las_vlr_step file9 1 291).number ≡ 18
  pub point_at : (las_point_at file9 2).number ≡ 11
  pub decode : (las_decode 0 20 (zeros 19)).number ≡ 12
  pub class_kept : (las_class_kept sheet5 2).number ≡ 22
  pub class_test : (las_class_test (sheet3 ++ sheet5) 2).number ≡ 22
  pub record_kept : (las_record_kept sheet6 [] 0).number ≡ 20
  pub geokey_find : (las_geokey_find file9 1024).number ≡ 40
  pub accepts : (las_release file9 sheet3 (used 255)).0.number ≡ 0
  pub cutting_list : (cutting_list sheet_both file9 (unfilled 1)).0 ≡ listed.Refused 31
  pub release_by_list : is_released (release_by_list sheet3 file9 (used 254) (unfilled 2)).0.0 ≡ false
  pub las_cutting_list : (las_cutting_list file9 sheet_both (unfilled 1)).0.number ≡ 31
  pub las_release_by_list_number : (las_release_by_list file9 sheet3 (used 254) (unfilled 2)).0.0.number ≡ 30
  pub both_short : (las_release_by_list file9 sheet_both (used 254) (unfilled 1)).0.0.number ≡ 31
  pub room_short : (las_release_by_list file9 sheet3 (used 254) (unfilled 1)).0.0.number ≡ 30
  pub mend : (mend (zeros 227)).0.verdict ≡ Fails 2
  pub las_mend : (las_mend (zeros 227)).0.number ≡ 2

computed_numbers : ComputedNumbers
unfolding computed encode_checks large stored_if encoded header.header_if header_read step_of record_if point_at_of point_if kept_under tested_under
    projection_place first or_later is_projection answer_if payload_in directory_of directory_verdict search_verdict lookup
    header_numbers no_header record_numbers no_record point_numbers no_point decoded_numbers kept_numbers tested_numbers geokey_numbers is_released
    las_check_file las_check_sheet las_read_header las_vlr_step las_point_at las_decode las_encode las_class_kept las_class_test las_record_kept las_geokey_find las_release las_mend
    mend_verdict mend_by mend mended_numbers lists_computed las_cutting_list las_release_by_list listed_numbers
computed_numbers =
    record {
      encode = refl;
      las_encode = refl;
      release = refl;
      las_release_number = refl;
      check_file = refl;
      check_sheet = refl;
      read_header = refl;
      vlr_step = refl;
      point_at = refl;
      decode = refl;
      class_kept = refl;
      class_test = refl;
      record_kept = refl;
      geokey_find = refl;
      accepts = refl;
      cutting_list = refl;
      release_by_list = refl;
      las_cutting_list = refl;
      las_release_by_list_number = refl;
      both_short = refl;
      room_short = refl;
      mend = refl;
      las_mend = refl;
    }

pub nothing_changed_met : NothingChangedMet
nothing_changed_met =
    let changed : NothingChanged = demand1.nothing_changed in
    record {
      encode = changed.encode 0 20 fields7 (used 19) 12 computed_numbers.encode;
      las_encode = changed.las_encode 0 20 numbers7 (used 19) 11 computed_numbers.las_encode;
      release = changed.release sheet3 file9 (used 254) computed_numbers.release;
      las_release = changed.las_release file9 sheet3 (used 254) 29 computed_numbers.las_release_number;
      cutting_list = changed.cutting_list sheet_both file9 (unfilled 1) 31 computed_numbers.cutting_list;
      release_by_list = changed.release_by_list sheet3 file9 (used 254) (unfilled 2) computed_numbers.release_by_list;
      las_cutting_list = changed.las_cutting_list file9 sheet_both (unfilled 1) 30 computed_numbers.las_cutting_list;
      las_release_by_list = changed.las_release_by_list file9 sheet3 (used 254) (unfilled 2) 29 computed_numbers.las_release_by_list_number;
      mend = changed.mend (zeros 227) 2 computed_numbers.mend;
      las_mend = changed.las_mend (zeros 227) 1 computed_numbers.las_mend;
    }

pub zeros_beside_met : ZerosBesideMet
unfolding refusal
zeros_beside_met =
    let beside : ZerosBeside = demand1.zeros_beside in
    record {
      read_header = beside.read_header (zeros 227) 1 computed_numbers.read_header;
      vlr_step = beside.vlr_step file9 1 291 17 computed_numbers.vlr_step;
      point_at = beside.point_at file9 2 10 computed_numbers.point_at;
      decode = beside.decode 0 20 (zeros 19) 11 computed_numbers.decode;
      class_kept = beside.class_kept sheet5 2 21 computed_numbers.class_kept;
      class_test = beside.class_test (sheet3 ++ sheet5) 2 21 computed_numbers.class_test;
      record_kept = beside.record_kept sheet6 [] 0 19 computed_numbers.record_kept;
      geokey_find = beside.geokey_find file9 1024 39 computed_numbers.geokey_find;
      release = beside.release file9 sheet3 (used 254) 29 computed_numbers.las_release_number ∙ rw needed9.0;
      cutting_list = beside.cutting_list file9 sheet_both (unfilled 1) 30 computed_numbers.las_cutting_list;
      release_by_list = beside.release_by_list file9 sheet_both (used 254) (unfilled 1) 30 computed_numbers.both_short;
      mend = beside.mend (zeros 227) 1 computed_numbers.las_mend;
    }

pub each_number_met : EachNumberMet
each_number_met =
    let numbers : EachNumber = demand1.each_number in
    record {
      table = (demand1.tables.given (input_checks true 40000) 50).0 (unfold computed input_checks in refl);
      check_file = ((numbers.check_file (zeros 226)).refuses 0).0 computed_numbers.check_file;
      check_sheet = ((numbers.check_sheet sheet4).refuses 22).0 computed_numbers.check_sheet;
      read_header = ((numbers.read_header (zeros 227)).refuses 1).0 computed_numbers.read_header;
      vlr_step = ((numbers.vlr_step file9 1 291).refuses 17).0 computed_numbers.vlr_step;
      point_at = ((numbers.point_at file9 2).refuses 10).0 computed_numbers.point_at;
      decode = ((numbers.decode 0 20 (zeros 19)).refuses 11).0 computed_numbers.decode;
      encode_number = ((numbers.encode 0 20 numbers7 (used 19)).refuses 11).0 computed_numbers.las_encode;
      class_kept = ((numbers.class_kept sheet5 2).refuses 21).0 computed_numbers.class_kept;
      class_test = ((numbers.class_test (sheet3 ++ sheet5) 2).refuses 21).0 computed_numbers.class_test;
      record_kept = ((numbers.record_kept sheet6 [] 0).refuses 19).0 computed_numbers.record_kept;
      geokey_find = ((numbers.geokey_find file9 1024).refuses 39).0 computed_numbers.geokey_find;
      release_number = ((numbers.release file9 sheet3 (used 254)).refuses 29).0 computed_numbers.las_release_number;
      list_number = ((numbers.cutting_list file9 sheet_both (unfilled 1)).refuses 30).0 computed_numbers.las_cutting_list;
      by_list_number = ((numbers.release_by_list file9 sheet_both (used 254) (unfilled 1)).refuses 30).0 computed_numbers.both_short;
      room_number = ((numbers.release_by_list file9 sheet3 (used 254) (unfilled 1)).refuses 29).0 computed_numbers.room_short;
      mend_number = ((numbers.mend (zeros 227)).refuses 1).0 computed_numbers.las_mend;
      accepts = (numbers.release file9 sheet3 (used 255)).accepts.0 computed_numbers.accepts;
    }

-- ---- mending

mends9 : Mends cut9
unfolding computed all_small mend_verdict mend_by mend
mends9 = record { bytes = all_bytes cut9 tt; accepted = refl }

pointless_mends9 : Mends pointless9
unfolding computed all_small mend_verdict mend_by mend
pointless_mends9 = record { bytes = all_bytes pointless9 tt; accepted = refl }

-- what is computed of these files
pub record ComputedMending : Type 0 where
  pub refused : file_verdict cut9 ≡ Fails 9
  pub long : length cut9 ≡ 320
  pub marked : get_or (mend file9).0.marks 1 false ≡ true
  pub one : min (point_count cut9) ((length cut9 - point_offset cut9) / record_length cut9) ≡ 1
  pub none : min (point_count pointless9) ((length pointless9 - point_offset pointless9) / record_length pointless9) ≡ 0
  pub other : file_verdict (zeros 227) ≡ Fails 2
  pub bytes : AllBytes (zeros 227)

computed_mending : ComputedMending
unfolding computed all_small mend_verdict mend_by mend whole_records mended_count mended_points mended changed marks
computed_mending =
    record { refused = refl; long = refl; marked = refl; one = refl; none = refl; other = refl; bytes = all_bytes (zeros 227) tt }

no_field131 : InNoField 131
unfolding InNoField
no_field131 = (
  inr (lit≤ tt),
  (
    inr (lit≤ tt),
    (
      inr (lit≤ tt),
      (
        inr (lit≤ tt),
        (
          inr (lit≤ tt),
          (
            inr (lit≤ tt),
            (inl (lit≤ tt), (inl (lit≤ tt), (inl (lit≤ tt), (inl (lit≤ tt), (inl (lit≤ tt), (inl (lit≤ tt), tt)))))),
          ),
        ),
      ),
    ),
  ),
)

not_refused_9 : file_verdict (zeros 227) ≡ Fails 9 → ⊥
unfolding number_of
not_refused_9 e = let z : ◌≡◌ {A = ℕ} 2 9 = ap number_of (sym computed_mending.other ∙ e) in omega arith

passing_not_9 : (s : Bytes) → file_verdict s ≡ Passes → file_verdict s ≡ Fails 9 → ⊥
unfolding number_of
passing_not_9 s e f = let z : ◌≡◌ {A = ℕ} 0 9 = ap number_of (sym e ∙ f) in omega arith

pub mending_met : MendingMet
mending_met =
    record {
      refused = computed_mending.refused;
      length_stays = untouched.length_stays cut9 ∙ computed_mending.long;
      byte_stays = untouched.bytes_stay file9 131 no_field131;
      marked = computed_mending.marked;
      changed = (marked.exactly file9 1 (lit< tt)).0 computed_mending.marked;
      passes = right_about_points.passes cut9 mends9;
      counted = count9;
      binned = right_about_points.binned cut9 mends9;
      bounded = right_about_points.bounded cut9 mends9 (omega (arith, count9)) axis_x;
      no_points = right_about_points.no_points pointless9 pointless_mends9 (right_about_points.counted pointless9 pointless_mends9 ∙ computed_mending.none);
      again = mended_twice.again cut9 mends9;
      accepted = keeps_release.accepted file9 good9.passes;
      contents_stay = keeps_release.contents_stay file9 good9;
      release_stays = keeps_release.release_stays sheet3 file9 (filled 7) good9.bytes (passing_not_9 file9 good9.passes);
      refused_alike = keeps_release.release_stays sheet3 (zeros 227) (filled 7) computed_mending.bytes not_refused_9;
    }
  where
    count9 : point_count (mend cut9).1 ≡ 1
    count9 = right_about_points.counted cut9 mends9 ∙ computed_mending.one

-- ---- sheets

pub sheets_met : SheetsMet
sheets_met =
    record {
      whole = lines_are.whole sheet3 sheet_passes9;
      class = (kept_by_lines.class sheet3 2).0 (unfold computed in refl);
      entry = (kept_by_lines.entry sheet_a7 (0x41 ∷ []) 7).0 (unfold computed in refl);
    }

-- what the class test gives, by computing
pub record ComputedTests : Type 0 where
  pub passes : sheet_verdict sheet_a22 ≡ Passes
  pub held : class_test sheet_a22 2 ≡ tested.Held 2
  pub counted : lines_for sheet_a22 2 ≡ 2
  pub kind_2 : kind sheet_a7 ≡ 2
  pub not_held : class_test sheet_a22 3 ≡ tested.NotHeld 3
  pub three : length (lines sheet_a22) ≡ 3
  pub all_64 : class_test sheet64 3 ≡ tested.NotHeld 64
  pub empty : class_test [] 2 ≡ tested.NotHeld 0
  pub fault : sheet_verdict (sheet3 ++ sheet5) ≡ Fails 22
  pub above_31 : class_test (from 40 50) 40 ≡ tested.Held 1
  pub numbers : las_class_test sheet_a22 2 ≡ record { number = 0; kept = 1; lines = 2 }

computed_tests : ComputedTests
unfolding computed unless up_to_first lines_for tested_under tested_numbers las_class_test
computed_tests =
    record {
      passes = refl;
      held = refl;
      counted = refl;
      kind_2 = refl;
      not_held = refl;
      three = refl;
      all_64 = refl;
      empty = refl;
      fault = refl;
      above_31 = refl;
      numbers = refl;
    }

pub class_tests_met : ClassTestsMet
class_tests_met =
    record {
      held = (lines_looked_at.held sheet_a22 2 2).1 (computed_tests.passes, first);
      first = first;
      some_line =
          (lines_looked_at.some_line sheet_a22 2 computed_tests.passes).0
          (computed_tests.held ∙ ap tested.Held (sym computed_tests.counted));
      never_kind_2 = lines_looked_at.never_kind_2 sheet_a7 2 computed_tests.kind_2;
      not_held = (lines_looked_at.not_held sheet_a22 3 3).1 (computed_tests.passes, none, sym computed_tests.three);
      none = none;
      all_64 = computed_tests.all_64;
      empty = computed_tests.empty;
      refused = (lines_looked_at.refused (sheet3 ++ sheet5) 2 22).1 computed_tests.fault;
      above_31 = computed_tests.above_31;
      numbers = computed_tests.numbers;
      counted = says_what_is_kept.numbers_count sheet_a22 2 computed_tests.passes;
    }
  where
    none : All (λ l. contains_class l 3 ≡ false) (lines sheet_a22)
    none = ((lines_looked_at.not_held sheet_a22 3 3).0 computed_tests.not_held).1

    first : FirstThat (λ l. contains_class l 2) (lines sheet_a22) 2
    first = ((lines_looked_at.held sheet_a22 2 2).0 computed_tests.held).1

-- ---- files and their records

sound_record : SoundRecord 2 one_record
unfolding computed
sound_record =
    record {
      user = record { short = lit≤ tt; back = refl };
      id = lit< tt;
      description = record { short = lit≤ tt; back = refl };
      payload = lit< tt;
    }

total_one : 5 + total (written_length 2) (one_record ∷ []) ≡ 61
unfolding computed
total_one = refl

pub files_met : FilesMet
files_met =
    record {
      passed = (files.passes file9).0 good9.passes;
      passes = (files.passes file9).1 ((files.passes file9).0 good9.passes);
      walk_back = files.walk_back 2 (one_record ∷ []) (sound_record, tt) 5 (used 5) (used 3) refl;
      walk_end_back = files.walk_end_back 2 (one_record ∷ []) (sound_record, tt) 5 (used 5) (used 3) refl ∙ total_one;
    }

-- one record, at 227
walk9 : (record_count file9 ≡ 1) × (header_size file9 ≡ 227) × (places 2 1 227 file9 ≡ 227 ∷ [])
unfolding computed
walk9 = (refl, refl, refl)

pub visits_met : VisitsMet
visits_met =
    record {
      visits = rw (walk9.0, walk9.1, walk9.2) at (stepping.visits file9 good9.passes 0);
      ends_in_18 = rw walk9.0 at (stepping.ends_in_18 file9 good9.passes 291);
    }

-- ---- points

in_range7 : InRange fields7
unfolding computed
in_range7 =
    record {
      x = record { sfits = lit< tt };
      y = record { sfits = lit< tt };
      z = record { sfits = lit< tt };
      intensity = lit< tt;
      scan_angle = record { sfits = lit< tt };
      user_data = lit< tt;
      source_id = lit< tt;
      gps_time = lit< tt;
      red = lit< tt;
      green = lit< tt;
      blue = lit< tt;
    }

point_bytes7 : AllBytes (point7 2)
unfolding all_small
point_bytes7 = all_bytes (point7 2) tt

decoded7 : decoded 0 20 (point7 2) ≡ Fields fields7
unfolding computed
decoded7 = refl

room7 : drop (format_size 0) (used 20) ≡ drop (format_size 0) (point7 2)
unfolding computed
room7 = refl

encoded7 : (encoded 0 20 fields7 (used 20)).0 ≡ Passes
unfolding computed encode_checks large stored_if encoded
encoded7 = refl

size0 : format_size 0 ≡ 20
unfolding computed
size0 = refl

encoded24 : (encoded 0 24 fields7 (used 24)).0 ≡ Passes
unfolding computed encode_checks large stored_if encoded
encoded24 = refl

pub round_trips_met : RoundTripsMet
round_trips_met =
    record {
      encode_after_decode = round_trips.encode_after_decode 0 20 (point7 2) (used 20) fields7 point_bytes7 decoded7 refl room7;
      decode_after_encode = round_trips.decode_after_encode 0 20 (used 20) fields7 in_range7 encoded7;
      extra_stay = rw size0 at (round_trips.extra_stay 0 24 fields7 (used 24) encoded24);
    }

pub first_bytes_met : FirstBytesMet
first_bytes_met =
    record { kept = first_bytes.kept sheet3 1 20 long7 (lit≤ tt); counted = first_bytes.counted 1 20 no_tally long7 (lit≤ tt) }

-- ---- texts

spaced_good9 : Good (named9 (replicate 32 0x20))
unfolding computed all_small
spaced_good9 = record { bytes = all_bytes (named9 (replicate 32 0x20)) tt; passes = refl }

joined_good9 : Good (named9 (ab ++ zeros 30))
unfolding computed all_small
joined_good9 = record { bytes = all_bytes (named9 (ab ++ zeros 30)) tt; passes = refl }

apart_good9 : Good (named9 (a_b ++ zeros 29))
unfolding computed all_small
apart_good9 = record { bytes = all_bytes (named9 (a_b ++ zeros 29)) tt; passes = refl }

named_part9 : public_of sheet3 file9 ≡ public_of sheet3 (named9 (replicate 32 0x20))
unfolding computed
named_part9 = refl

named_needed9 : (needed sheet3 (named9 (replicate 32 0x20)) ≡ 255)
    × (needed sheet3 (named9 (ab ++ zeros 30)) ≡ 255)
    × (needed sheet3 (named9 (a_b ++ zeros 29)) ≡ 255)
unfolding computed
named_needed9 = (refl, refl, refl)

first_bytes9 : (get_or file9 26 0 ≡ 0) × (get_or (named9 (replicate 32 0x20)) 26 0 ≡ 32)
unfolding computed
first_bytes9 = (refl, refl)

systems9 : (length (public_of sheet3 (named9 (ab ++ zeros 30))).carried.system ≡ 2)
    × (length (public_of sheet3 (named9 (a_b ++ zeros 29))).carried.system ≡ 3)
unfolding computed
systems9 = (refl, refl)

other : (m n : ℕ) → T (not (eqb m n)) → m ≡ n → ⊥
other m n t e = T_not (eqb m n) t (subst (λ (k : ℕ). T (eqb m k)) e (eqb_refl m))

plain_ab : Plain ab
plain_ab = plain ab (other 0x41 0 tt, (other 0x42 0 tt, other 0x42 32 tt))

plain_a_b : Plain a_b
plain_a_b = plain a_b (other 0x41 0 tt, (other 0x20 0 tt, (other 0x42 0 tt, other 0x42 32 tt)))

plain_in_front : Plain (0x20 ∷ 0x41 ∷ [])
plain_in_front = plain (0x20 ∷ 0x41 ∷ []) (other 0x20 0 tt, (other 0x41 0 tt, other 0x41 32 tt))

blanks : (n : ℕ) → All (λ (b : ℕ). (b ≡ 0) ⊎ (b ≡ 32)) (replicate n 0x20)
blanks zero = tt
blanks (suc n) = (inr refl, blanks n)

behind_cut : IsCut (ab ++ 0x20 ∷ 0x20 ∷ 0x00 ∷ 0x20 ∷ 0x78 ∷ []) ab
behind_cut = record { spaces = 2; rest = 0x00 ∷ 0x20 ∷ 0x78 ∷ []; whole = refl; zero_first = refl; plain = plain_ab }

names_kept : (keeps_record sheet_a7 (cut (0x41 ∷ replicate 15 0x20)) 7 ≡ true) × (keeps_record sheet_spaces7 (cut (zeros 16)) 7 ≡ true)
unfolding computed
names_kept = (refl, refl)

pub texts_met : TextsMet
texts_met =
    record {
      behind = (texts.is_cut (ab ++ 0x20 ∷ 0x20 ∷ 0x00 ∷ 0x20 ∷ 0x78 ∷ []) ab).1 behind_cut;
      inner = texts.no_inner_zero a_b (0x20 ∷ []) plain_a_b (inr refl, tt);
      all_spaces = texts.no_inner_zero [] (replicate 16 0x20) (plain [] tt) (blanks 16);
      in_front = texts.no_inner_zero (0x20 ∷ 0x41 ∷ []) [] plain_in_front tt;
      name_kept = names_kept.0;
      empty_name_kept = names_kept.1;
      files_differ = λ e. let z : ◌≡◌ {A = ℕ} 0 32 = sym first_bytes9.0 ∙ ap (λ (s : Bytes). get_or s 26 0) e ∙ first_bytes9.1 in omega arith;
      spaces_alike =
          (demand3.exactly sheet3 file9 (named9 (replicate 32 0x20)) (filled 7) (filled 9) sheet_passes9 good9 spaced_good9 refl
          (omega (arith, needed9.0)) (omega (arith, named_needed9.0))).1 named_part9;
      inner_apart = λ same.
          let parts = (demand3.exactly sheet3 (named9 (ab ++ zeros 30)) (named9 (a_b ++ zeros 29)) (filled 7) (filled 9) sheet_passes9 joined_good9
          apart_good9 refl (omega (arith, named_needed9.1)) (omega (arith, named_needed9.2))).0 same in
          let z : ◌≡◌ {A = ℕ} 2 3 = sym systems9.0 ∙ ap (λ p. length p.carried.system) parts ∙ systems9.1 in
          omega arith;
    }

-- ---- classes and flags

second_good9 : (Good (second9 130)) × (Good (second9 66)) × (Good first9)
unfolding computed all_small
second_good9 = (
  record { bytes = all_bytes (second9 130) tt; passes = refl },
  record { bytes = all_bytes (second9 66) tt; passes = refl },
  record { bytes = all_bytes first9 tt; passes = refl },
)

key_point_bytes : AllBytes (point7 66)
unfolding all_small
key_point_bytes = all_bytes (point7 66) tt

-- what is computed of these files and points
pub record ComputedClasses : Type 0 where
  pub parts : (class_of 0 (point7 66) ≡ 2) × (synthetic_of 0 (point7 66) ≡ false) × (key_point_of 0 (point7 66) ≡ true)
      × (withheld_of 0 (point7 66) ≡ false)
  pub class_2 : keeps_class sheet3 2 ≡ true
  pub anywhere : (keeps_place sheet3 (point7 66) ≡ true) × (keeps_place sheet3 (point7 34) ≡ true)
  pub synthetic : (class_of 0 (point7 34) ≡ 2) × (withheld_of 0 (point7 34) ≡ false)
  pub withheld : withheld_of 0 (point7 130) ≡ true
  pub carried : carried_of (second9 130) ≡ carried_of first9
  pub records : (contents (second9 130)).records ≡ (contents first9).records
  pub others : not_withheld (second9 130) ≡ not_withheld first9
  pub needed_each : (needed sheet3 (second9 130) ≡ 255) × (needed sheet3 (second9 66) ≡ 283) × (needed sheet3 first9 ≡ 255)
  pub counts : (point_count (second9 130) ≡ 2) × (point_count first9 ≡ 1)
  pub points : (length (public_of sheet3 (second9 66)).points ≡ 2) × (length (public_of sheet3 first9).points ≡ 1)

computed_classes : ComputedClasses
unfolding computed
computed_classes =
    record {
      parts = (refl, refl, refl, refl);
      class_2 = refl;
      anywhere = (refl, refl);
      synthetic = (refl, refl);
      withheld = refl;
      carried = refl;
      records = refl;
      others = refl;
      needed_each = (refl, refl, refl);
      counts = (refl, refl);
      points = (refl, refl);
    }

-- of classes to 31, a line from 66 to 66 holds none, as the empty sheet
none_to_31 : (c : ℕ) → c ≤ 31 → keeps_class (from 66 66) c ≡ keeps_class [] c
unfolding computed
none_to_31 c h = rw (lt-leb 66 c (omega arith))

-- and one from 20 to 200 those that one from 20 to 31 holds
same_to_31 : (c : ℕ) → c ≤ 31 → keeps_class (from 20 200) c ≡ keeps_class (from 20 31) c
unfolding computed
same_to_31 c h = rw (le-leb c 200 (omega arith), le-leb c 31 h)

-- without a box every place is kept
unboxed : (low high : ℕ) (p : Bytes) → keeps_place (from low high) p ≡ true
unfolding computed
unboxed low high p = refl

unboxed_empty : (p : Bytes) → keeps_place [] p ≡ true
unfolding computed
unboxed_empty p = refl

pub classes_met : ClassesMet
classes_met =
    record {
      joined = classified.joined 0 (point7 66) key_point_bytes ∙ rw (is.parts.0, is.parts.1, is.parts.2, is.parts.3);
      to_31 = classified.to_31 0 (point7 255);
      key_point_kept = (kept_by_class.exactly sheet3 0 (point7 66)).1 (rw is.parts.0 is.class_2, is.parts.3, is.anywhere.0);
      synthetic_kept =
          kept_by_class.other_flags sheet3 0 (point7 34) (point7 66) (is.synthetic.0 ∙ sym is.parts.0) (is.synthetic.1 ∙ sym is.parts.3)
          (is.anywhere.1 ∙ sym is.anywhere.0);
      withheld_stays = kept_by_class.never_withheld sheet3 0 (point7 130) is.withheld;
      withheld_stays_always = kept_by_class.never_withheld (from 0 255) 0 (point7 130) is.withheld;
      above_31 = kept_by_class.above_31 (from 66 66) [] none_to_31 (λ p. unboxed 66 66 p ∙ sym (unboxed_empty p));
      across_31 = kept_by_class.above_31 (from 20 200) (from 20 31) same_to_31 (λ p. unboxed 20 200 p ∙ sym (unboxed 20 31 p));
      none_goes_out = none_withheld.none_goes_out sheet3 file9 (filled 7) 255 1 0 accepted9;
      files_differ = λ e. omega (arith, ap point_count e, is.counts.0, is.counts.1);
      same_public_part = same_part9;
      withheld_alike =
          (demand3.exactly sheet3 (second9 130) first9 (filled 7) (filled 9) sheet_passes9 second_good9.0 second_good9.2 refl
          (omega (arith, is.needed_each.0)) (omega (arith, is.needed_each.2))).1 (same_part9 sheet3);
      key_point_apart = λ same.
          let parts = (demand3.exactly sheet3 (second9 66) first9 (filled 7) (filled 9) sheet_passes9 second_good9.1 second_good9.2 refl
          (omega (arith, is.needed_each.1)) (omega (arith, is.needed_each.2))).0 same in
          omega (arith, ap (λ p. length p.points) parts, is.points.0, is.points.1);
    }
  where
    is : ComputedClasses
    is = computed_classes

    same_part9 : (sheet : Bytes) → public_of sheet (second9 130) ≡ public_of sheet first9
    same_part9 sheet = none_withheld.same_public_part sheet (second9 130) first9 is.carried is.records is.others

-- ---- coordinates

scaled9 : T (good_scaling (scaling_of file9))
unfolding computed
scaled9 = tt

small : Fits32 (negsuc 0) × Fits32 (pos 3)
unfolding Fits32
small = (lit≤ tt, lit≤ tt)

doubles9 : (num (part 131 8 file9) ≡ num half) × (num (part 139 8 file9) ≡ num half)
    × (num (part 147 8 file9) ≡ num half)
    × (num (part 155 8 file9) ≡ num ten) × (num (part 163 8 file9) ≡ num ten) × (num (part 171 8 file9) ≡ num ten)
unfolding computed
doubles9 = (refl, refl, refl, refl, refl, refl)

exact10 : (z : ℤ) → Fits32 z
    → Times 1 (coordinate_of z (fin false 1 (negsuc 0)) (of_int binary64 (pos 10))) (z +ℤ pos 10 *ℤ pos (2 ^ 1))
unfolding Exact
exact10 = coordinates.exact 1 (fin false 1 (negsuc 0)) (of_int binary64 (pos 10)) (pos 10) (coordinates.exact_case 1 (pos 10) (lit≤ tt) (lit≤ tt))

pub coordinates_met : CoordinatesMet
coordinates_met =
    record {
      is_finite = (coordinates.finite_in_order (scaling_of file9) scaled9 axis_x).is_finite (negsuc 0) small.0;
      in_order = (coordinates.finite_in_order (scaling_of file9) scaled9 axis_x).in_order (negsuc 0) (pos 3) small.0 small.1 (record { le = tt });
      carried = coordinates.carried file9 good9.bytes scaled9 axis_x;
      exact = exact10 (negsuc 0) small.0;
    }

pub own_bits_met : OwnBitsMet
own_bits_met =
    record {
      scales = own_bits.scales file9 good9.bytes good9.passes ∙ rw (doubles9.0, doubles9.1, doubles9.2);
      offsets = own_bits.offsets file9 good9.bytes good9.passes ∙ rw (doubles9.3, doubles9.4, doubles9.5);
    }
