-- Instances: every theorem that has hypotheses, applied to files, sheets and points that meet them. A statement that an
-- added or stronger hypothesis has made empty is refused here.
-- Assumes nothing.
use Rattle.std.specs.Prelude.{◌≡◌, ℕ, ◌+◌, ◌*◌, ◌≤◌, List, [], ◌∷◌, ◌++◌, T, length, drop, get_or, replicate, take, ℤ, pos, negsuc, ◌+ℤ◌, ◌*ℤ◌, Float, true, false}
use Rattle.std.specs.Float.{binary64, fin}
use Rattle.std.specs.Float.Ieee.{le, of_int}
use Rattle.std.specs.Float.Ieee.Scale.{finite}
use Rattle.fields.specs.Lists.{All}
use Rattle.fields.specs.Bytes.{Bytes, part, num, zeros, join}
use Rattle.fields.specs.Checks.{AllClear, Passes, Fails}
use Rattle.fields.specs.Text.{cut}
use Rattle.points.specs.declared.Point.{Point}
use Rattle.points.specs.Points.{Fields, point_of, decode_checks, decoded}
use Rattle.points.specs.Raw.{class_byte, class_of, withheld_of}
use Rattle.points.specs.Encoding.{encode_checks, encoded, blank}
use Rattle.scaling.specs.Scaling.{coordinate_of, scaling_of}
use Rattle.lasfile.specs.Inputs.{input_checks}
use Rattle.lasfile.specs.FileChecks.{file_checks, file_verdict, mend_checks}
use Rattle.lasfile.specs.Passed.{Passed}
use Rattle.lasfile.specs.Records.{Record, walk, walk_end, records_bytes}
use Rattle.reader.specs.Steps.{step_checks, record_places, step_of, visited, Refused}
use Rattle.reader.specs.OnePoint.{point_checks}
use Rattle.sheet.specs.Sheet.{kind, lowest, highest, user_id, record_id, lines}
use Rattle.sheet.specs.Keeping.{contains_class, keeps_point, keeps_record, lines_for, class_test}
use Rattle.sheet.specs.Tests as tested
use Rattle.lasfile.specs.HeaderFields.{format, point_count}
use Rattle.publicpart.specs.Public.{contents, public_of}
use Rattle.publicpart.specs.Release.{release}
use Rattle.publicpart.specs.declared.Span.{Span}
use Rattle.publicpart.specs.Cutting.{span, cutting_list, release_by_list}
use Rattle.editor.specs.Mend.{mend}
use Rattle.capi.specs.Answers.{released_numbers}
use Rattle.capi.specs.HeaderAnswers.{no_header}
use Rattle.capi.specs.RecordAnswers.{no_record}
use Rattle.capi.specs.PointAnswers.{no_point, given_point}
use Rattle.capi.specs.declared.point.las_point.{las_point}
use Rattle.capi.specs.Interface.{las_read_header, las_vlr_step, las_point_at, las_decode, las_encode, las_class_kept, las_class_test, las_record_kept, las_geokey_find, las_release, las_cutting_list, las_release_by_list, las_mend}
use Rattle.tally.specs.Tally.{no_tally, tallied}
use Rattle.theorems.specs.Terms.{refusal, OfOutput}
use Rattle.theorems.specs.Tables.{Given, sheet_checks, lookup_checks, release_checks, list_checks, by_list_checks}
use Rattle.theorems.specs.Demand3.{Same, in_length}
use Rattle.theorems.specs.Recognised.{OutputUnder, GivesItself}
use Rattle.theorems.specs.ReleasedFile.{points_kept, Holds, CountsKept}
use Rattle.theorems.specs.Coordinates.{axis_x, axis_scale, axis_offset, Times, CarriedBits}
use Rattle.theorems.specs.BoundsOfKept.{Bounded, bin_of, Binned}
use Rattle.theorems.specs.Mending.{field_in}
use Rattle.theorems.specs.Sheets.{line, SomeLine}
use Rattle.theorems.specs.ClassTests.{FirstThat}
use Rattle.theorems.specs.Visits.{cursor}
use Rattle.theorems.specs.Samples.{sheet3, sheet4, sheet5, sheet6, point7, half, ten, used, file9}

-- ---- the data: sample P9's file and sheet, and what is made of them

-- another file with the same public part: three bytes behind the first
abbrev pub other9 : Bytes
other9 = file9 ++ 0x01 ∷ 0x02 ∷ 0x03 ∷ []

-- outputs of 300 bytes
abbrev pub filled : ℕ → Bytes
filled b = replicate 300 b

-- the output of a release into one of them: 255 bytes and 45 zeros
abbrev pub output9 : Bytes
output9 = (release sheet3 file9 (filled 7)).1

-- of that output as a file, with the zeros and without
abbrev pub OfOutput9 : (Bytes → Type 0) → Type 0
OfOutput9 P = OfOutput sheet3 file9 (filled 7) 255 P

-- released again into b, it gives the same answer, and the released file with zeros behind it
abbrev pub Again9 : Bytes → Type 0
Again9 b = OfOutput9 (λ file. release sheet3 file b ≡ in_length 255 (length b) (release sheet3 file9 (filled 7)))

-- the point of sample P7
abbrev pub fields7 : Point
fields7 = point_of 0 (point7 2)

abbrev pub numbers7 : las_point
numbers7 = las_decode 0 20 (point7 2)

abbrev pub one_record : Record
one_record = record { user = 0x41 ∷ []; id = 7; description = []; payload = 0x01 ∷ 0x02 ∷ [] }

-- a sheet that keeps the record with user ID "A" and record ID 7
abbrev pub sheet_a7 : Bytes
sheet_a7 = 0x4B ∷ 0x53 ∷ 0x02 ∷ 0x41 ∷ (zeros 15 ++ 0x07 ∷ 0x00 ∷ [])

-- a sheet of three lines: one for that record, and two for class 2
abbrev pub sheet_a22 : Bytes
sheet_a22 = sheet_a7 ++ (sheet3 ++ sheet3)

-- a sheet of 64 lines
abbrev pub sheet64 : Bytes
sheet64 = join (replicate 64 line)

-- a sheet that keeps sample P9's record and its point of class 2: two lines
abbrev pub sheet_both : Bytes
sheet_both = 0x4B ∷ 0x53 ∷ 0x02 ∷ (zeros 18 ++ sheet3)

-- a list of n lines as it is lent
abbrev pub unfilled : ℕ → List Span
unfilled n = replicate n (span 7 9)

-- ---- demand 1

pub record NothingChangedMet : Type 0 where
  -- a room of 19 bytes is refused and stays
  pub encode : (encoded 0 20 fields7 (used 19)).1 ≡ used 19
  -- of `las_encode` too
  pub las_encode : (las_encode 0 20 numbers7 (used 19)).1 ≡ used 19
  -- so does an output of 254 bytes
  pub release : (release sheet3 file9 (used 254)).1 ≡ used 254
  -- of `las_release` too
  pub las_release : (las_release file9 sheet3 (used 254)).1 ≡ used 254
  -- a list of one line is too short for two, and stays
  pub cutting_list : (cutting_list sheet_both file9 (unfilled 1)).1 ≡ unfilled 1
  -- so do both where the output is too short for the released file
  pub release_by_list : ((release_by_list sheet3 file9 (used 254) (unfilled 2)).0.1 ≡ used 254)
      × ((release_by_list sheet3 file9 (used 254) (unfilled 2)).1 ≡ unfilled 2)
  -- of `las_cutting_list` and `las_release_by_list` too
  pub las_cutting_list : (las_cutting_list file9 sheet_both (unfilled 1)).1 ≡ unfilled 1
  pub las_release_by_list : ((las_release_by_list file9 sheet3 (used 254) (unfilled 2)).0.1 ≡ used 254)
      × ((las_release_by_list file9 sheet3 (used 254) (unfilled 2)).1 ≡ unfilled 2)
  -- 227 zero bytes are not mended
  pub mend : (mend (zeros 227)).1 ≡ zeros 227
  -- by `las_mend` neither
  pub las_mend : (las_mend (zeros 227)).1 ≡ zeros 227

pub record ZerosBesideMet : Type 0 where
  -- 227 zero bytes have no header
  pub read_header : las_read_header (zeros 227) ≡ no_header 2
  -- sample P9's file has one record
  pub vlr_step : las_vlr_step file9 1 291 ≡ no_record 18
  -- and two points
  pub point_at : las_point_at file9 2 ≡ no_point 11
  -- 19 bytes are no point
  pub decode : las_decode 0 20 (zeros 19) ≡ no_point 12
  -- sample P5's sheet does not pass
  pub class_kept : las_class_kept sheet5 2 ≡ record { number = 22; kept = 0 }
  -- nor behind a line that answers
  pub class_test : las_class_test (sheet3 ++ sheet5) 2 ≡ record { number = 22; kept = 0; lines = 0 }
  -- nor does sample P6's
  pub record_kept : las_record_kept sheet6 [] 0 ≡ record { number = 20; kept = 0 }
  -- sample P9's file has no directory
  pub geokey_find : las_geokey_find file9 1024 ≡ record { number = 40; location = 0; value = 0; length = 0 }
  -- 254 bytes are too few for 255
  pub release : (las_release file9 sheet3 (used 254)).0 ≡ record { number = 30; length = 255; points = 0; records = 0 }
  -- one line is too few for two
  pub cutting_list : (las_cutting_list file9 sheet_both (unfilled 1)).0 ≡ record { number = 31; lines = 0 }
  -- which is given before 30, with zeros
  pub release_by_list : (las_release_by_list file9 sheet_both (used 254) (unfilled 1)).0.0
      ≡ record { number = 31; length = 0; points = 0; records = 0 }
  -- 227 zero bytes are not mended, and nothing is marked
  pub mend : (las_mend (zeros 227)).0 ≡ record { number = 2; marks = replicate 12 0 }

pub record EachNumberMet : Type 0 where
  -- the program's table gives 50 for a file of 40,000 bytes
  pub table : Given (input_checks true 40000) 50
  -- 226 bytes give 1
  pub check_file : Given (file_checks (zeros 226)) 1
  -- sample P4's sheet gives 23
  pub check_sheet : Given (sheet_checks sheet4) 23
  -- 227 zero bytes give 2
  pub read_header : Given (file_checks (zeros 227)) 2
  -- a second step in sample P9's file gives 18
  pub vlr_step : Given (file_checks file9 ++ step_checks file9 1 291) 18
  -- its third point gives 11
  pub point_at : Given (file_checks file9 ++ point_checks file9 2) 11
  -- 19 bytes to decode give 12
  pub decode : Given (decode_checks 0 20 (zeros 19)) 12
  -- 19 bytes to encode to give 12
  pub encode_number : Given (encode_checks 0 20 (given_point numbers7) (used 19)) 12
  -- sample P5's sheet gives 22
  pub class_kept : Given (sheet_checks sheet5) 22
  -- behind a line that answers too
  pub class_test : Given (sheet_checks (sheet3 ++ sheet5)) 22
  -- sample P6's sheet gives 20
  pub record_kept : Given (sheet_checks sheet6) 20
  -- a lookup in sample P9's file gives 40
  pub geokey_find : Given (file_checks file9 ++ lookup_checks file9 1024) 40
  -- its release into 254 bytes gives 30
  pub release_number : Given (release_checks sheet3 file9 (used 254)) 30
  -- one line for two gives 31
  pub list_number : Given (list_checks sheet_both file9 (unfilled 1)) 31
  -- before 30
  pub by_list_number : Given (by_list_checks sheet_both file9 (used 254) (unfilled 1)) 31
  -- 30 where the list is long enough
  pub room_number : Given (by_list_checks sheet3 file9 (used 254) (unfilled 1)) 30
  -- 227 zero bytes to mend give 2
  pub mend_number : Given (mend_checks (zeros 227)) 2
  -- into 255 bytes every check is clear
  pub accepts : AllClear (release_checks sheet3 file9 (used 255))

-- ---- demand 3

pub record ExactlyMet : Type 0 where
  -- two different files
  pub files_differ : file9 ≡ other9 → ⊥
  -- into outputs that differ
  pub outputs_differ : filled 7 ≡ filled 9 → ⊥
  -- the same numbers and bytes
  pub same : Same (release sheet3 file9 (filled 7)) (release sheet3 other9 (filled 9))
  -- and, from that, one public part
  pub one_public_part : public_of sheet3 file9 ≡ public_of sheet3 other9

pub record ShortMet : Type 0 where
  -- into 254 bytes
  pub short : (released_numbers (release sheet3 file9 (used 254)).0 ≡ refusal 30 255)
      × ((release sheet3 file9 (used 254)).1 ≡ used 254)
      × (released_numbers (release sheet3 other9 (zeros 254)).0 ≡ refusal 30 255)
      × ((release sheet3 other9 (zeros 254)).1 ≡ zeros 254)

pub record AgainMet : Type 0 where
  -- again, into a shorter output
  pub again_shorter : Again9 (used 260)
  -- into a longer one
  pub again_longer : Again9 (used 400)
  -- into one of the same length
  pub again_same : OfOutput9 (λ file. release sheet3 file (filled 9) ≡ release sheet3 file9 (filled 7))

-- ---- a released file is known

pub record RecognisedMet : Type 0 where
  -- the output of sample P9's release gives itself
  pub gives_itself : GivesItself sheet3 output9 (filled 9)
  -- and, from that, it came out of a release
  pub came_out : OutputUnder sheet3 output9

-- ---- the released file

pub record CompleteMet : Type 0 where
  -- the output of sample P9's release holds the public part
  pub holds : OfOutput9 (Holds sheet3 file9)
  -- 255 bytes, one point, no record
  pub counted : CountsKept sheet3 file9 255 1 0
  -- 300 bytes, the last 45 of them zero
  pub rest : (length output9 ≡ 300) × (drop 255 output9 ≡ zeros 45)

pub record NeverLongerMet : Type 0 where
  -- 255 bytes of 347
  pub no_longer : 255 ≤ length file9
  -- the output passes
  pub passes : OfOutput9 (λ file. file_verdict file ≡ Passes)
  -- an output of 347 bytes is not too short
  pub room : (released_numbers (release sheet3 file9 (used 347)).0).number ≡ 0

pub record BoundsOfKeptMet : Type 0 where
  -- the bounds of X are those of the one kept point
  pub bounded : OfOutput9 (λ out. Bounded file9 out (points_kept sheet3 file9) axis_x)
  -- under the empty sheet, as in sample P10
  pub no_points : OfOutput [] file9 (used 227) 227 (λ out. part 179 48 out ≡ zeros 48)
  -- its bins count that point
  pub binned : OfOutput9 (λ out. Binned file9 out (points_kept sheet3 file9))
  -- the first bin is 1: the kept point has return number 1
  pub first_bin : OfOutput9 (λ out. bin_of out 1 ≡ 1)

-- ---- mending

-- sample P9's file, cut one byte behind its first point
abbrev pub cut9 : Bytes
cut9 = take 320 file9

-- and one byte before that point ends
abbrev pub pointless9 : Bytes
pointless9 = take 318 file9

pub record MendingMet : Type 0 where
  -- what is cut is refused with 9
  pub refused : file_verdict cut9 ≡ Fails 9
  -- it keeps its length
  pub length_stays : length (mend cut9).1 ≡ 320
  -- a byte behind the bins, the lowest of the X scale, stays
  pub byte_stays : get_or (mend file9).1 131 0 ≡ get_or file9 131 0
  -- the first bin of sample P9's file is marked
  pub marked : get_or (mend file9).0.marks 1 false ≡ true
  -- and so it was another
  pub changed : field_in 1 (mend file9).1 ≡ field_in 1 file9 → ⊥
  -- what was cut passes now
  pub passes : file_verdict (mend cut9).1 ≡ Passes
  -- it has one point of the two
  pub counted : point_count (mend cut9).1 ≡ 1
  -- its bins count that one
  pub binned : Binned (mend cut9).1 (mend cut9).1 (contents (mend cut9).1).points
  -- its bounds of X are that one's
  pub bounded : Bounded (mend cut9).1 (mend cut9).1 (contents (mend cut9).1).points axis_x
  -- without a whole point all bounds are +0.0
  pub no_points : part 179 48 (mend pointless9).1 ≡ zeros 48
  -- mended again it stays
  pub again : mend (mend cut9).1 ≡ (record { verdict = Passes; marks = replicate 12 false }, (mend cut9).1)
  -- sample P9's file can be mended
  pub accepted : (mend file9).0.verdict ≡ Passes
  -- and keeps its contents
  pub contents_stay : contents (mend file9).1 ≡ contents file9
  -- and its release
  pub release_stays : release sheet3 (mend file9).1 (filled 7) ≡ release sheet3 file9 (filled 7)
  -- a file that is refused with another number is refused as before
  pub refused_alike : release sheet3 (mend (zeros 227)).1 (filled 7) ≡ release sheet3 (zeros 227) (filled 7)

-- ---- texts

-- the letters A and B
abbrev pub ab : Bytes
ab = 0x41 ∷ 0x42 ∷ []

-- and with a space between them
abbrev pub a_b : Bytes
a_b = 0x41 ∷ 0x20 ∷ 0x42 ∷ []

-- a sheet that keeps the record with a user ID of spaces and record ID 7
abbrev pub sheet_spaces7 : Bytes
sheet_spaces7 = 0x4B ∷ 0x53 ∷ 0x02 ∷ (replicate 16 0x20 ++ 0x07 ∷ 0x00 ∷ [])

-- sample P9's file with another system identifier, of 32 bytes
abbrev pub named9 : Bytes → Bytes
named9 t = take 26 file9 ++ (t ++ drop 58 file9)

pub record TextsMet : Type 0 where
  -- two spaces, a zero and what follows it go
  pub behind : cut (ab ++ 0x20 ∷ 0x20 ∷ 0x00 ∷ 0x20 ∷ 0x78 ∷ []) ≡ ab
  -- an inner space stays, and one at the end goes
  pub inner : cut (a_b ++ 0x20 ∷ []) ≡ a_b
  -- nothing is left of 16 spaces
  pub all_spaces : cut (replicate 16 0x20) ≡ []
  -- a space in front stays
  pub in_front : cut (0x20 ∷ 0x41 ∷ []) ≡ 0x20 ∷ 0x41 ∷ []
  -- a line for "A" keeps the record whose user ID is "A" and 15 spaces
  pub name_kept : keeps_record sheet_a7 (cut (0x41 ∷ replicate 15 0x20)) 7 ≡ true
  -- and a line for 16 spaces the one whose user ID is empty
  pub empty_name_kept : keeps_record sheet_spaces7 (cut (zeros 16)) 7 ≡ true
  -- 32 spaces make another file
  pub files_differ : file9 ≡ named9 (replicate 32 0x20) → ⊥
  -- with the same release
  pub spaces_alike : Same (release sheet3 file9 (filled 7)) (release sheet3 (named9 (replicate 32 0x20)) (filled 9))
  -- an inner space makes another release
  pub inner_apart : Same (release sheet3 (named9 (ab ++ zeros 30)) (filled 7))
      (release sheet3 (named9 (a_b ++ zeros 29)) (filled 9))
      → ⊥

-- ---- classes and flags

-- a sheet that keeps the classes from one to another
abbrev pub from : ℕ → ℕ → Bytes
from low high = 0x4B ∷ 0x53 ∷ 0x01 ∷ low ∷ high ∷ []

-- sample P9's file, its second point with another classification byte
abbrev pub second9 : ℕ → Bytes
second9 byte = take 334 file9 ++ (byte ∷ drop 335 file9)

-- and that file with a number of points of 1, so that it has no second point
abbrev pub first9 : Bytes
first9 = take 107 file9 ++ (0x01 ∷ drop 108 file9)

pub record ClassesMet : Type 0 where
  -- 66 is class 2 and the flag of a key point
  pub joined : class_byte 0 (point7 66) ≡ 2 + 32 * 0 + 64 * 1 + 128 * 0
  -- the class of 255 is at most 31
  pub to_31 : class_of 0 (point7 255) ≤ 31
  -- a line for class 2 keeps a key point of class 2
  pub key_point_kept : keeps_point sheet3 0 (point7 66) ≡ true
  -- and so a synthetic one
  pub synthetic_kept : keeps_point sheet3 0 (point7 34) ≡ keeps_point sheet3 0 (point7 66)
  -- but no withheld one
  pub withheld_stays : keeps_point sheet3 0 (point7 130) ≡ false
  -- nor does a line for 0 to 255
  pub withheld_stays_always : keeps_point (from 0 255) 0 (point7 130) ≡ false
  -- a line for 66 keeps no point
  pub above_31 : (f : ℕ) (p : Bytes) → keeps_point (from 66 66) f p ≡ keeps_point [] f p
  -- and one for 20 to 200 those of classes 20 to 31
  pub across_31 : (f : ℕ) (p : Bytes) → keeps_point (from 20 200) f p ≡ keeps_point (from 20 31) f p
  -- no point of sample P9's release is withheld
  pub none_goes_out : OfOutput9 (λ out. All (λ p. withheld_of (format out) p ≡ false) (contents out).points)
  -- a file with a withheld point of class 2 and one without it are two files
  pub files_differ : second9 130 ≡ first9 → ⊥
  -- with one public part under every sheet
  pub same_public_part : (sheet : Bytes) → public_of sheet (second9 130) ≡ public_of sheet first9
  -- and so with the same release
  pub withheld_alike : Same (release sheet3 (second9 130) (filled 7)) (release sheet3 first9 (filled 9))
  -- a key point in its place makes another release
  pub key_point_apart : Same (release sheet3 (second9 66) (filled 7)) (release sheet3 first9 (filled 9)) → ⊥

-- ---- sheets, files, points, coordinates

pub record SheetsMet : Type 0 where
  -- sample P3's sheet is its one line
  pub whole : join (lines sheet3) ≡ sheet3
  -- some line keeps class 2
  pub class : SomeLine (lines sheet3) (λ l. (kind l ≡ 1) × (lowest l ≤ 2) × (2 ≤ highest l))
  -- some line keeps the record
  pub entry : SomeLine (lines sheet_a7) (λ l. (kind l ≡ 2) × (user_id l ≡ 0x41 ∷ []) × (record_id l ≡ 7))

pub record ClassTestsMet : Type 0 where
  -- of a line for a record and two for class 2, the second answers for class 2
  pub held : class_test sheet_a22 2 ≡ tested.Held 2
  -- and is the first that contains it
  pub first : FirstThat (λ l. contains_class l 2) (lines sheet_a22) 2
  -- some line does
  pub some_line : SomeLine (lines sheet_a22) (λ l. contains_class l 2 ≡ true)
  -- the line for the record does not
  pub never_kind_2 : contains_class sheet_a7 2 ≡ false
  -- none answers for class 3, and all three are looked at
  pub not_held : class_test sheet_a22 3 ≡ tested.NotHeld 3
  pub none : All (λ l. contains_class l 3 ≡ false) (lines sheet_a22)
  -- and so with 64
  pub all_64 : class_test sheet64 3 ≡ tested.NotHeld 64
  -- and with the empty sheet
  pub empty : class_test [] 2 ≡ tested.NotHeld 0
  -- a fault behind the line that answers is given
  pub refused : class_test (sheet3 ++ sheet5) 2 ≡ tested.Refused 22
  -- a line for 40 to 50 holds 40, which no point has
  pub above_31 : class_test (from 40 50) 40 ≡ tested.Held 1
  -- in other languages: the number, 1 for yes, and two lines
  pub numbers : las_class_test sheet_a22 2 ≡ record { number = 0; kept = 1; lines = 2 }
  pub counted : (las_class_test sheet_a22 2).lines ≡ lines_for sheet_a22 2

pub record FilesMet : Type 0 where
  -- sample P9's file is as `Passed` says
  pub passed : Passed file9
  -- and, from that, it passes
  pub passes : file_verdict file9 ≡ Passes
  -- a record that is written at 5 is read there
  pub walk_back : walk 2 1 5 (used 5 ++ (records_bytes 2 (one_record ∷ []) ++ used 3)) ≡ one_record ∷ []
  -- a header of 54 bytes and a payload of 2
  pub walk_end_back : walk_end 2 1 5 (used 5 ++ (records_bytes 2 (one_record ∷ []) ++ used 3)) ≡ 61

pub record VisitsMet : Type 0 where
  -- two steps visit the one record of sample P9's file
  pub visits : visited 2 file9 (cursor 0 227) ≡ record_places file9 227 ∷ []
  -- and a second step gives 18
  pub ends_in_18 : step_of file9 1 291 ≡ Refused 18

pub record RoundTripsMet : Type 0 where
  -- sample P7's bytes come back from their fields
  pub encode_after_decode : encoded 0 20 fields7 (used 20) ≡ (Passes, point7 2)
  -- and its fields from their bytes
  pub decode_after_encode : decoded 0 20 (encoded 0 20 fields7 (used 20)).1 ≡ Fields (blank 0 fields7)
  -- of a room of 24 bytes the last four stay
  pub extra_stay : drop 20 (encoded 0 24 fields7 (used 24)).1 ≡ used 4

-- a record of format 1 that begins with sample P7's bytes
abbrev pub long7 : Bytes
long7 = point7 2 ++ zeros 8

pub record FirstBytesMet : Type 0 where
  -- its first 20 bytes are kept as the whole of it
  pub kept : keeps_point sheet3 1 (take 20 long7) ≡ keeps_point sheet3 1 long7
  -- and counted
  pub counted : tallied 1 no_tally (take 20 long7) ≡ tallied 1 no_tally long7

-- an X coordinate of the file
abbrev pub at9 : ℤ → Float
at9 z = coordinate_of z (axis_scale axis_x (scaling_of file9)) (axis_offset axis_x (scaling_of file9))

pub record CoordinatesMet : Type 0 where
  -- the coordinate of -1 is finite
  pub is_finite : T (finite (at9 (negsuc 0)))
  -- and at most that of 3
  pub in_order : T (le (at9 (negsuc 0)) (at9 (pos 3)))
  -- the scale and offset of X are carried by their bits
  pub carried : CarriedBits file9 axis_x
  -- 2 times the coordinate of -1 is -1 + 10 · 2
  pub exact : Times 1 (coordinate_of (negsuc 0) (fin false 1 (negsuc 0)) (of_int binary64 (pos 10)))
      (negsuc 0 +ℤ pos 10 *ℤ pos 2)

pub record OwnBitsMet : Type 0 where
  -- three scales of 0.5
  pub scales : (las_read_header file9).scale ≡ num half ∷ num half ∷ num half ∷ []
  -- three offsets of 10
  pub offsets : (las_read_header file9).offset ≡ num ten ∷ num ten ∷ num ten ∷ []
