-- Demand 1 holds: a refusal changes nothing lent, and each function's number is that of its table's first failing
-- check.
-- Assumes nothing.
use mathlib.Core.Path.{◌≡◌, refl, sym, ap, ◌∙◌}
use Prim.Native.Nat.{ℕ, zero, suc, ◌≤◌, ◌<◌}
use native.Mathlib.Omega.{arith}
use borrow.Author.Tests.{le-leb, lt-leb}
use mathlib.Core.Bool.{Bool, true, false, true≢false, cond}
use mathlib.Core.List.{List, [], ◌∷◌, ◌++◌}
use mathlib.Core.Option.{Option}
use lib.ListN.{length, replicate}
use lib.Dec.{eqb, ltb, leb}
use Rattle.fields.specs.Lists.{kept, cons_if}
use Rattle.fields.specs.Bytes.{Bytes}
use Rattle.fields.specs.Checks.{Check, ◌below◌, fails, fail_if, first_failing, then, number_of, Verdict, Passes, Fails}
use Rattle.fields.proofs.CheckLaws.{first_fails, Without, never_given}
use Rattle.points.specs.Points as points
use Rattle.points.specs.Encoding as encoding
use Rattle.points.specs.declared.Point.{Point}
use Rattle.lasfile.specs.FileChecks.{file_checks, file_verdict, mend_checks, mend_verdict}
use Rattle.reader.specs.Header as header
use Rattle.reader.specs.declared.header.Header.{Header}
use Rattle.reader.specs.Steps.{step_checks, record_if, step_of, Step}
use Rattle.reader.specs.declared.cursor.RecordPlaces.{RecordPlaces}
use Rattle.reader.specs.declared.cursor.VlrCursor.{VlrCursor}
use Rattle.reader.specs.OnePoint.{point_checks, point_if, point_at_of, PointAt}
use Rattle.sheet.specs.Sheet.{line_checks, after_line, lines_verdict, sheet_verdict}
use Rattle.sheet.specs.Keeping.{kept_under, keeps_class, keeps_record, lines_for, tested_under, Kept}
use Rattle.geokeys.specs.GeoKeys.{entry_of, from_entry, searched, search_verdict, lookup, GeoKey}
use Rattle.geokeys.specs.Halving.{Halved, halve, key_read, read_if, lookup_by_halving}
use Rattle.geokeys.proofs.KeyReadLaws.{found_is}
use Rattle.geokeys.specs.GeoKeys as key
use Rattle.points.specs.Points.{Decoded}
use Rattle.reader.specs.Header.{HeaderRead}
use Rattle.reader.specs.Steps as step
use Rattle.reader.specs.OnePoint as place
use Rattle.sheet.specs.Keeping as sheet_kept
use Rattle.sheet.specs.Tests.{Tested}
use Rattle.sheet.specs.Tests as tested
use Rattle.fields.specs.Text.{cut}
use Rattle.publicpart.specs.Public.{public_of}
use Rattle.publicpart.specs.Release.{Outcome, refuse_or, short_or, accepted, room_or, release}
use Rattle.publicpart.specs.declared.Span.{Span}
use Rattle.publicpart.specs.Cutting.{Listed, cutting_lines, list_verdict, list_under, cutting_list, fill_unless, by_list_under, release_by_list}
use Rattle.publicpart.specs.Cutting as listed
use Rattle.publicpart.proofs.CuttingLaws.{by_list_is}
use Rattle.editor.specs.Mend.{mend_by, mend}
use Rattle.capi.specs.Answers.{released_numbers, listed_numbers, kept_numbers, tested_numbers, mark_numbers, mended_numbers}
use Rattle.capi.specs.RecordAnswers.{found_record, no_record, record_numbers, geokey_numbers, read_numbers}
use Rattle.capi.specs.PointAnswers.{found_point, no_point, point_numbers, decoded_numbers, given_point}
use Rattle.capi.specs.HeaderAnswers.{found_header, no_header, header_numbers}
use Rattle.capi.specs.Interface.{las_check_file, las_check_sheet, las_read_header, las_vlr_step, las_point_at, las_decode, las_encode, las_class_kept, las_class_test, las_record_kept, las_geokey_find, las_geokey_halve, las_release, las_cutting_list, las_release_by_list, las_mend}
use Rattle.theorems.specs.Terms.{needed, enough, refusal, key_refusal}
use Rattle.theorems.specs.Tables.{ByTable, lines_checks, sheet_checks, search_checks, lookup_checks, halving_checks, release_checks, list_checks, by_list_checks}
use Rattle.theorems.specs.Demand1.{NothingChanged, ZerosBeside, EachNumber, Demand1}
use Rattle.theorems.specs.ZeroWhereAccepted.{is_released, is_zero}
use Rattle.theorems.proofs.sheet.TestLaws.{numbers_under}
use Rattle.theorems.proofs.geokeys.LookupTable.{looked_up, search_above, by_entry, before_search}
use Rattle.theorems.proofs.TableLaws.{joined, without_both, table_laws, follows}

-- ---- a refusal changes nothing lent

stored_not : (v : Verdict) (b room : Bytes) (n : ℕ) → (encoding.stored_if v b room).0 ≡ Fails n
    → (encoding.stored_if v b room).1 ≡ room
unfolding encoding.stored_if
stored_not Passes b room n e = let z : ◌≡◌ {A = ℕ} 0 1 = cc in absurd (omega arith)
stored_not (Fails m) b room n e = refl

stored_numbered : (v : Verdict) (b room : Bytes) (n : ℕ) → number_of (encoding.stored_if v b room).0 ≡ suc n
    → (encoding.stored_if v b room).1 ≡ room
unfolding encoding.stored_if number_of
stored_numbered Passes b room n e = absurd (omega arith)
stored_numbered (Fails m) b room n e = refl

-- a release whose later outcome leaves the output where it is not accepted
not_released : (v : Verdict) (short? : Bool) (m : ℕ) (out : Bytes) (o : Outcome) → is_released o.0 ≡ true
    → is_released (refuse_or v out (short_or short? m out o)).0 ≡ false → (refuse_or v out (short_or short? m out o)).1 ≡ out
unfolding refuse_or short_or
not_released (Fails n) short? m out o h e = refl
not_released Passes true m out o h e = refl
not_released Passes false m out o h e = let z : true ≡ false = sym h ∙ e in let y : ◌≡◌ {A = ℕ} 0 1 = cc in absurd (omega arith)

numbered_out : (v : Verdict) (short? : Bool) (m : ℕ) (out : Bytes) (o : Outcome) (n : ℕ)
    → (released_numbers o.0).number ≡ 0
    → (released_numbers (refuse_or v out (short_or short? m out o)).0).number ≡ suc n
    → (refuse_or v out (short_or short? m out o)).1 ≡ out
unfolding refuse_or short_or
numbered_out (Fails c) short? m out o n h e = refl
numbered_out Passes true m out o n h e = refl
numbered_out Passes false m out o n h e = absurd (omega arith)

-- a list under a verdict
listed_not : (v : Verdict) (lines list : List Span) (n : ℕ) → (list_under v lines list).0 ≡ listed.Refused n → (list_under v lines list).1 ≡ list
unfolding list_under
listed_not Passes lines list n e = let z : ◌≡◌ {A = ℕ} 0 1 = cc in absurd (omega arith)
listed_not (Fails m) lines list n e = refl

listed_numbered : (v : Verdict) (lines list : List Span) (n : ℕ) → (listed_numbers (list_under v lines list).0).number ≡ suc n → (list_under v lines list).1 ≡ list
unfolding list_under listed_numbers
listed_numbered Passes lines list n e = absurd (omega arith)
listed_numbered (Fails m) lines list n e = refl

-- a release by a list under a verdict, too short or not
by_list_not : (v : Verdict) (short? : Bool) (m : ℕ) (out : Bytes) (o : Outcome) (lines list : List Span) → is_released o.0 ≡ true
    → let x = by_list_under v out list (short_or short? m out o, fill_unless short? lines list) in
    is_released x.0.0 ≡ false → (x.0.1 ≡ out) × (x.1 ≡ list)
unfolding by_list_under short_or fill_unless
by_list_not (Fails n) short? m out o lines list h e = (refl, refl)
by_list_not Passes true m out o lines list h e = (refl, refl)
by_list_not Passes false m out o lines list h e = absurd (true≢false (sym h ∙ e))

by_list_numbered : (v : Verdict) (short? : Bool) (m : ℕ) (out : Bytes) (o : Outcome) (lines list : List Span) (n : ℕ) → (released_numbers o.0).number ≡ 0
    → let x = by_list_under v out list (short_or short? m out o, fill_unless short? lines list) in
    (released_numbers x.0.0).number ≡ suc n → (x.0.1 ≡ out) × (x.1 ≡ list)
unfolding by_list_under short_or fill_unless
by_list_numbered (Fails c) short? m out o lines list n h e = (refl, refl)
by_list_numbered Passes true m out o lines list n h e = (refl, refl)
by_list_numbered Passes false m out o lines list n h e = absurd (omega arith)

not_by_list : (sheet file out : Bytes) (list : List Span) → is_released (release_by_list sheet file out list).0.0 ≡ false
    → ((release_by_list sheet file out list).0.1 ≡ out) × ((release_by_list sheet file out list).1 ≡ list)
unfolding room_or accepted is_released
not_by_list sheet file out list =
    rw (by_list_is sheet file out list)
    (by_list_not (list_verdict sheet file (length list)) _ _ out (accepted (public_of sheet file) (length out)) (cutting_lines sheet file) list refl)

numbered_by_list : (sheet file out : Bytes) (list : List Span) (n : ℕ) → (released_numbers (release_by_list sheet file out list).0.0).number ≡ suc n
    → ((release_by_list sheet file out list).0.1 ≡ out) × ((release_by_list sheet file out list).1 ≡ list)
unfolding room_or accepted released_numbers
numbered_by_list sheet file out list n =
    rw (by_list_is sheet file out list)
    (by_list_numbered (list_verdict sheet file (length list)) _ _ out (accepted (public_of sheet file) (length out)) (cutting_lines sheet file) list n refl)

mended_not : (v : Verdict) (s : Bytes) (n : ℕ) → (mend_by v s).0.verdict ≡ Fails n → (mend_by v s).1 ≡ s
unfolding mend_by
mended_not Passes s n e = let z : ◌≡◌ {A = ℕ} 0 1 = cc in absurd (omega arith)
mended_not (Fails m) s n e = refl

mended_numbered : (v : Verdict) (s : Bytes) (n : ℕ) → (mended_numbers (mend_by v s).0).number ≡ suc n → (mend_by v s).1 ≡ s
unfolding mend_by mended_numbers number_of
mended_numbered Passes s n e = absurd (omega arith)
mended_numbered (Fails m) s n e = refl

nothing_changed : NothingChanged
unfolding encoding.encoded release room_or accepted cutting_list mend is_released las_encode las_release las_cutting_list las_release_by_list las_mend released_numbers
nothing_changed =
    record {
      encode = λ format len q room n e. stored_not _ _ room n e;
      release = λ sheet file out e. not_released _ _ _ out (accepted (public_of sheet file) (length out)) refl e;
      cutting_list = λ sheet file list n e. listed_not (list_verdict sheet file (length list)) (cutting_lines sheet file) list n e;
      release_by_list = not_by_list;
      mend = λ file n e. mended_not (mend_verdict file) file n e;
      las_encode = λ format len p room n e. stored_numbered _ _ room _ e;
      las_release = λ file sheet out n e. numbered_out _ _ _ out (accepted (public_of sheet file) (length out)) _ refl e;
      las_cutting_list =
          λ file sheet list n e. listed_numbered (list_verdict sheet file (length list)) (cutting_lines sheet file) list _ e;
      las_release_by_list = λ file sheet out list n e. numbered_by_list sheet file out list _ e;
      las_mend = λ file n e. mended_numbered (mend_verdict file) file n e;
    }

-- ---- an answer that a verdict decides has its number

header_number : (v : Verdict) (h : Header) → (header_numbers (header.header_if v h)).number ≡ number_of v
unfolding header.header_if header_numbers found_header no_header number_of
header_number Passes h = refl
header_number (Fails n) h = refl

step_number : (v : Verdict) (r : RecordPlaces) (next : VlrCursor)
    → (record_numbers (record_if v r next)).number ≡ number_of v
unfolding record_if record_numbers found_record no_record number_of
step_number Passes r next = refl
step_number (Fails n) r next = refl

point_number : (v : Verdict) (at : ℕ) (p : Point) → (point_numbers (point_if v at p)).number ≡ number_of v
unfolding point_if point_numbers found_point no_point number_of
point_number Passes at p = refl
point_number (Fails n) at p = refl

decoded_number : (v : Verdict) (p : Point) → (decoded_numbers (points.fields_if v p)).number ≡ number_of v
unfolding points.fields_if decoded_numbers found_point no_point number_of
decoded_number Passes p = refl
decoded_number (Fails n) p = refl

encoded_number : (v : Verdict) (b room : Bytes) → number_of (encoding.stored_if v b room).0 ≡ number_of v
unfolding encoding.stored_if
encoded_number Passes b room = refl
encoded_number (Fails n) b room = refl

kept_number : (v : Verdict) (kept : Bool) → (kept_numbers (kept_under v kept)).number ≡ number_of v
unfolding kept_under kept_numbers number_of
kept_number Passes true = refl
kept_number Passes false = refl
kept_number (Fails n) kept = refl

listed_number : (v : Verdict) (lines list : List Span) → (listed_numbers (list_under v lines list).0).number ≡ number_of v
unfolding list_under listed_numbers number_of
listed_number Passes lines list = refl
listed_number (Fails n) lines list = refl

mended_number : (v : Verdict) (s : Bytes) → (mended_numbers (mend_by v s).0).number ≡ number_of v
unfolding mend_by mended_numbers
mended_number Passes s = refl
mended_number (Fails n) s = refl

-- ---- the file

file_above : (file : Bytes) → Without 0 (file_checks file)
unfolding Without is_zero
file_above file = (refl, (refl, (refl, (refl, (refl, (refl, (refl, (refl, (refl, (refl, tt))))))))))

file_first : (file : Bytes) → file_verdict file ≡ first_failing (file_checks file)
unfolding file_verdict
file_first file = refl

-- a table behind the file's
behind_file : (file : Bytes) (cs : List Check) (number : ℕ) → Without 0 cs
    → number ≡ number_of (then (file_verdict file) (first_failing cs))
    → ByTable number (file_checks file ++ cs)
behind_file file cs number above e =
    follows number (file_checks file ++ cs) (without_both 0 (file_checks file) cs (file_above file) above)
    (e ∙ rw (file_first file) (ap number_of (sym (joined (file_checks file) cs))))

-- ---- the sheet

-- what the checks of every line and 24 are without, the sheet's table is
lines_without : (k : ℕ) → eqb 24 k ≡ false → ((s : Bytes) → Without k (line_checks s)) → (n : ℕ) (s : Bytes)
    → Without k (lines_checks n s)
unfolding lines_checks
lines_without k h line zero s = unfold Without in (h, tt)
lines_without k h line (suc n) [] = unfold Without in tt
lines_without k h line (suc n) (b ∷ bs) =
    without_both k (line_checks (b ∷ bs)) (lines_checks n (after_line (b ∷ bs))) (line (b ∷ bs))
    (lines_without k h line n (after_line (b ∷ bs)))

line_without : (s : Bytes) → Without 0 (line_checks s) × Without 30 (line_checks s)
unfolding line_checks Without
line_without s = ((refl, (refl, (refl, (refl, (refl, tt))))), (refl, (refl, (refl, (refl, (refl, tt))))))

lines_first : (n : ℕ) (s : Bytes) → lines_verdict n s ≡ first_failing (lines_checks n s)
unfolding lines_verdict lines_checks
lines_first zero [] = unfold first_failing fail_if fails in refl
lines_first zero (b ∷ bs) = sym (first_fails 24 (0 below length (b ∷ bs)) [] (omega arith))
lines_first (suc n) [] = unfold first_failing in refl
lines_first (suc n) (b ∷ bs) =
    ap (then (first_failing (line_checks (b ∷ bs)))) (lines_first n (after_line (b ∷ bs)))
    ∙ sym (joined (line_checks (b ∷ bs)) (lines_checks n (after_line (b ∷ bs))))

sheet_above : (sheet : Bytes) → Without 0 (sheet_checks sheet)
unfolding sheet_checks
sheet_above sheet = lines_without 0 refl (λ s. (line_without s).0) 64 sheet

-- the sheet's verdict is its table's first failing check
sheet_first : (sheet : Bytes) → sheet_verdict sheet ≡ first_failing (sheet_checks sheet)
unfolding sheet_verdict sheet_checks
sheet_first sheet = lines_first 64 sheet

by_sheet : (sheet : Bytes) (number : ℕ) → number ≡ number_of (sheet_verdict sheet) → ByTable number (sheet_checks sheet)
by_sheet sheet number e = follows number (sheet_checks sheet) (sheet_above sheet) (e ∙ ap number_of (sheet_first sheet))

-- ---- a release

room_number : (v : Verdict) (short? : Bool) (m : ℕ) (out : Bytes) (o : Outcome) → (released_numbers o.0).number ≡ 0
    → (released_numbers (refuse_or v out (short_or short? m out o)).0).number ≡ number_of (then v (fail_if short? 30 Passes))
unfolding refuse_or short_or released_numbers number_of then fail_if
room_number (Fails n) short? m out o h = refl
room_number Passes true m out o h = refl
room_number Passes false m out o h = h

then-then : (u v w : Verdict) → then (then u v) w ≡ then u (then v w)
unfolding then
then-then Passes v w = refl
then-then (Fails n) v w = refl

abbrev room_checks : Bytes → Bytes → Bytes → List Check
room_checks sheet file out = (30, length out below needed sheet file) ∷ []

behind_sheet : (sheet file out : Bytes)
    → then (sheet_verdict sheet) (first_failing (room_checks sheet file out))
    ≡ first_failing (sheet_checks sheet ++ room_checks sheet file out)
behind_sheet sheet file out = rw (sheet_first sheet) (sym (joined (sheet_checks sheet) (room_checks sheet file out)))

released_number : (file sheet out : Bytes) → (released_numbers (release sheet file out).0).number
    ≡ number_of (then (file_verdict file) (first_failing (sheet_checks sheet ++ room_checks sheet file out)))
unfolding release room_or
released_number file sheet out =
    room_number (then (file_verdict file) (sheet_verdict sheet)) (ltb (length out) (needed sheet file)) (needed sheet file) out
    (accepted (public_of sheet file) (length out)) (unfold accepted released_numbers in refl)
    ∙ ap number_of
    (then-then (file_verdict file) (sheet_verdict sheet) (fail_if (ltb (length out) (needed sheet file)) 30 Passes)
    ∙ ap (then (file_verdict file)) (unfold first_failing fails in behind_sheet sheet file out))

-- ---- a list, and a release by it

abbrev line_checks_of : Bytes → Bytes → List Span → List Check
line_checks_of sheet file list = (31, length list below enough sheet file) ∷ []

-- tables behind the file's and the sheet's
behind_both : (sheet file : Bytes) (cs : List Check)
    → then (then (file_verdict file) (sheet_verdict sheet)) (first_failing cs) ≡ then (file_verdict file) (first_failing (sheet_checks sheet ++ cs))
behind_both sheet file cs =
    then-then (file_verdict file) (sheet_verdict sheet) (first_failing cs)
    ∙ ap (then (file_verdict file)) (rw (sheet_first sheet) (sym (joined (sheet_checks sheet) cs)))

list_first : (sheet file : Bytes) (list : List Span) → list_verdict sheet file (length list) ≡ then (file_verdict file) (first_failing (sheet_checks sheet ++ line_checks_of sheet file list))
unfolding list_verdict
list_first sheet file list = unfold first_failing fails in behind_both sheet file (line_checks_of sheet file list)

-- 30 behind 31
room_behind : (v : Verdict) (b short? : Bool) → then v (fail_if b 31 (fail_if short? 30 Passes)) ≡ then (then v (fail_if b 31 Passes)) (fail_if short? 30 Passes)
unfolding then fail_if
room_behind (Fails n) b short? = refl
room_behind Passes true short? = refl
room_behind Passes false short? = refl

by_list_number : (v : Verdict) (short? : Bool) (m : ℕ) (out : Bytes) (o : Outcome) (lines list : List Span) → (released_numbers o.0).number ≡ 0
    → (released_numbers (by_list_under v out list (short_or short? m out o, fill_unless short? lines list)).0.0).number ≡ number_of (then v (fail_if short? 30 Passes))
unfolding by_list_under short_or released_numbers number_of then fail_if
by_list_number (Fails n) short? m out o lines list h = refl
by_list_number Passes true m out o lines list h = refl
by_list_number Passes false m out o lines list h = h

abbrev both_checks : Bytes → Bytes → Bytes → List Span → List Check
both_checks sheet file out list = (31, length list below enough sheet file) ∷ room_checks sheet file out

listed_released : (file sheet out : Bytes) (list : List Span) → (released_numbers (release_by_list sheet file out list).0.0).number
    ≡ number_of (then (file_verdict file) (first_failing (sheet_checks sheet ++ both_checks sheet file out list)))
unfolding room_or list_verdict
listed_released file sheet out list =
    ap (λ o. (released_numbers o.0.0).number) (by_list_is sheet file out list)
    ∙ by_list_number _ (ltb (length out) (needed sheet file)) (needed sheet file) out (accepted (public_of sheet file) (length out)) (cutting_lines sheet file) list (unfold accepted released_numbers in refl)
    ∙ ap number_of
    (sym (room_behind (then (file_verdict file) (sheet_verdict sheet)) (ltb (length list) (enough sheet file)) (ltb (length out) (needed sheet file)))
    ∙ unfold first_failing fails in behind_both sheet file (both_checks sheet file out list))

-- ---- zeros beside a refusal

header_zeros : (a : HeaderRead) (n : ℕ) → (header_numbers a).number ≡ suc n → header_numbers a ≡ no_header (suc n)
unfolding header_numbers found_header no_header
header_zeros (header.Fields h) n e = absurd (omega arith)
header_zeros (header.Refused m) n e = ap no_header e

step_zeros : (a : Step) (n : ℕ) → (record_numbers a).number ≡ suc n → record_numbers a ≡ no_record (suc n)
unfolding record_numbers found_record no_record
step_zeros (step.Record r next) n e = absurd (omega arith)
step_zeros (step.Refused m) n e = ap no_record e

point_zeros : (a : PointAt) (n : ℕ) → (point_numbers a).number ≡ suc n → point_numbers a ≡ no_point (suc n)
unfolding point_numbers found_point no_point
point_zeros (place.At at p) n e = absurd (omega arith)
point_zeros (place.Refused m) n e = ap no_point e

decoded_zeros : (a : Decoded) (n : ℕ) → (decoded_numbers a).number ≡ suc n → decoded_numbers a ≡ no_point (suc n)
unfolding decoded_numbers found_point no_point
decoded_zeros (points.Fields p) n e = absurd (omega arith)
decoded_zeros (points.Refused m) n e = ap no_point e

kept_zeros : (a : Kept) (n : ℕ) → (kept_numbers a).number ≡ suc n → kept_numbers a ≡ record { number = suc n; kept = 0 }
unfolding kept_numbers
kept_zeros sheet_kept.Yes n e = absurd (omega arith)
kept_zeros sheet_kept.No n e = absurd (omega arith)
kept_zeros (sheet_kept.Refused m) n e = λ i. record { number = e i; kept = 0 }

tested_zeros : (a : Tested) (n : ℕ) → (tested_numbers a).number ≡ suc n
    → tested_numbers a ≡ record { number = suc n; kept = 0; lines = 0 }
unfolding tested_numbers
tested_zeros (tested.Held m) n e = absurd (omega arith)
tested_zeros (tested.NotHeld m) n e = absurd (omega arith)
tested_zeros (tested.Refused m) n e = λ i. record { number = e i; kept = 0; lines = 0 }

key_zeros : (a : GeoKey) (n : ℕ) → (geokey_numbers a).number ≡ suc n
    → geokey_numbers a ≡ record { number = suc n; location = 0; value = 0; length = 0 }
unfolding geokey_numbers
key_zeros (key.Value v) n e = absurd (omega arith)
key_zeros (key.Double bits) n e = absurd (omega arith)
key_zeros (key.Text at m) n e = absurd (omega arith)
key_zeros (key.Refused m) n e = λ i. record { number = e i; location = 0; value = 0; length = 0 }

-- by halving: with the entries read from 42 on, which are the numbers by the entry
late : (n m : ℕ) → 42 ≤ n → m ≡ cond (leb 42 n) m 0
late n m h = rw (le-leb 42 n h)

early : (n m : ℕ) → n < 42 → 0 ≡ cond (leb 42 n) m 0
early n m h = rw (lt-leb 42 n h)

read_zeros : (file : Bytes) (h : Halved) (n : ℕ) (v : Verdict) → search_verdict file ≡ v
    → (read_numbers (read_if v (key_read file h))).number ≡ suc n
    → read_numbers (read_if v (key_read file h)) ≡ key_refusal (suc n) h.reads
unfolding read_numbers read_if key_read geokey_numbers key_refusal
read_zeros file h n Passes v e =
    let zeros = key_zeros (from_entry file h.entry) n e in
    let reads = late (suc n) h.reads (by_entry file h.entry n e) in
    λ i. record {
      number = (zeros i).number;
      location = (zeros i).location;
      value = (zeros i).value;
      length = (zeros i).length;
      reads = reads i;
    }
read_zeros file h n (Fails m) v e =
    let reads = early (suc n) h.reads (omega (arith, before_search file m v, e)) in
    λ i. record { number = e i; location = 0; value = 0; length = 0; reads = reads i }

-- no check before the room has the number 30
not_30 : (sheet file : Bytes) (n : ℕ) → then (file_verdict file) (sheet_verdict sheet) ≡ Fails n → eqb n 30 ≡ false
unfolding sheet_checks
not_30 sheet file n e =
    let cs : List Check = file_checks file ++ sheet_checks sheet in
    let all : then (file_verdict file) (sheet_verdict sheet) ≡ first_failing cs =
    rw (file_first file, sheet_first sheet) (sym (joined (file_checks file) (sheet_checks sheet))) in
    never_given 30 cs
    (without_both 30 (file_checks file) (sheet_checks sheet) (file_without_30 file) (lines_without 30 refl (λ s. (line_without s).1) 64 sheet))
    n (sym all ∙ e)
  where
    file_without_30 : (file : Bytes) → Without 30 (file_checks file)
    file_without_30 file = unfold Without in (refl, (refl, (refl, (refl, (refl, (refl, (refl, (refl, (refl, (refl, tt))))))))))

release_zeros : (v : Verdict) (short? : Bool) (m : ℕ) (out : Bytes) (o : Outcome) (n : ℕ)
    → (released_numbers o.0).number ≡ 0
    → ((c : ℕ) → v ≡ Fails c → eqb c 30 ≡ false)
    → (released_numbers (refuse_or v out (short_or short? m out o)).0).number ≡ suc n
    → released_numbers (refuse_or v out (short_or short? m out o)).0 ≡ refusal (suc n) m
unfolding refuse_or short_or released_numbers refusal
release_zeros (Fails c) short? m out o n h other e = rw (← e, other c refl)
release_zeros Passes true m out o n h other e = rw (← e)
release_zeros Passes false m out o n h other e = absurd (omega arith)

listed_zeros : (a : Listed) (n : ℕ) → (listed_numbers a).number ≡ suc n → listed_numbers a ≡ record { number = suc n; lines = 0 }
unfolding listed_numbers
listed_zeros (listed.Lines m) n e = absurd (omega arith)
listed_zeros (listed.Refused m) n e = λ i. record { number = e i; lines = 0 }

-- 31 is not 30 either
list_not_30 : (sheet file : Bytes) (list : List Span) (n : ℕ) → list_verdict sheet file (length list) ≡ Fails n → eqb n 30 ≡ false
unfolding list_verdict then fail_if
list_not_30 sheet file list n e = decide (then (file_verdict file) (sheet_verdict sheet)) (ltb (length list) (enough sheet file)) (not_30 sheet file n) e
  where
    decide : (v : Verdict) (b : Bool) → (v ≡ Fails n → eqb n 30 ≡ false) → then v (fail_if b 31 Passes) ≡ Fails n → eqb n 30 ≡ false
    decide (Fails m) b h e = h e
    decide Passes true h e = let f : 31 ≡ n = cc in rw (← f)
    decide Passes false h e = let z : ◌≡◌ {A = ℕ} 0 1 = cc in absurd (omega arith)

by_list_zeros : (v : Verdict) (short? : Bool) (m : ℕ) (out : Bytes) (o : Outcome) (lines list : List Span) (n : ℕ) → (released_numbers o.0).number ≡ 0
    → ((c : ℕ) → v ≡ Fails c → eqb c 30 ≡ false)
    → let x = by_list_under v out list (short_or short? m out o, fill_unless short? lines list) in
    (released_numbers x.0.0).number ≡ suc n → released_numbers x.0.0 ≡ refusal (suc n) m
unfolding by_list_under short_or released_numbers refusal
by_list_zeros (Fails c) short? m out o lines list n h other e = rw (← e, other c refl)
by_list_zeros Passes true m out o lines list n h other e = rw (← e)
by_list_zeros Passes false m out o lines list n h other e = absurd (omega arith)

mend_zeros : (v : Verdict) (s : Bytes) (n : ℕ) → (mended_numbers (mend_by v s).0).number ≡ suc n
    → mended_numbers (mend_by v s).0 ≡ record { number = suc n; marks = replicate 12 0 }
unfolding mend_by mended_numbers mark_numbers number_of
mend_zeros Passes s n e = absurd (omega arith)
mend_zeros (Fails m) s n e = λ i. record { number = e i; marks = replicate 12 0 }

zeros_beside : ZerosBeside
unfolding las_read_header las_vlr_step las_point_at las_decode las_class_kept las_class_test las_record_kept las_geokey_find las_geokey_halve lookup_by_halving las_release las_cutting_list las_release_by_list las_mend release room_or cutting_list mend
zeros_beside =
    record {
      read_header = λ file n e. header_zeros (header.header_read file) n e;
      vlr_step = λ file index position n e. step_zeros (step_of file index position) n e;
      point_at = λ file index n e. point_zeros (point_at_of file index) n e;
      decode = λ format len bytes n e. decoded_zeros (points.decoded format len bytes) n e;
      class_kept = λ sheet class n e. kept_zeros (kept_under (sheet_verdict sheet) (keeps_class sheet class)) n e;
      class_test =
          λ sheet class n e. tested_zeros (tested_under (sheet_verdict sheet) (keeps_class sheet class) (lines_for sheet class)) n e;
      record_kept = λ sheet user id n e. kept_zeros (kept_under (sheet_verdict sheet) (keeps_record sheet (cut user) id)) n e;
      geokey_find = λ file key n e. key_zeros (lookup file key) n e;
      geokey_halve = λ file key n e. read_zeros file (halve (searched file) key) n (search_verdict file) refl e;
      release =
          λ file sheet out n e.
          release_zeros (then (file_verdict file) (sheet_verdict sheet)) (ltb (length out) (needed sheet file)) (needed sheet file) out
          (accepted (public_of sheet file) (length out)) n (unfold accepted released_numbers in refl) (not_30 sheet file) e;
      cutting_list = λ file sheet list n e. listed_zeros (cutting_list sheet file list).0 n e;
      release_by_list =
          λ file sheet out list n.
          rw (by_list_is sheet file out list)
          (λ e.
          by_list_zeros (list_verdict sheet file (length list)) (ltb (length out) (needed sheet file)) (needed sheet file) out
          (accepted (public_of sheet file) (length out)) (cutting_lines sheet file) list n (unfold accepted released_numbers in refl) (list_not_30 sheet file list) e);
      mend = λ file n e. mend_zeros (mend_verdict file) file n e;
    }

-- ---- all of them

-- a lookup, whatever the search that found the entry
by_search : (file : Bytes) (entry : Option Bytes) (number : ℕ) → number ≡ number_of (first_failing (file_checks file ++ search_checks file entry))
    → ByTable number (file_checks file ++ search_checks file entry)
by_search file entry number e =
    follows number (file_checks file ++ search_checks file entry)
    (without_both 0 (file_checks file) (search_checks file entry) (file_above file) (search_above file entry)) e

each_number : EachNumber
unfolding las_check_file las_check_sheet las_read_header las_vlr_step las_point_at las_decode las_encode las_class_kept las_class_test las_record_kept las_geokey_find las_geokey_halve read_numbers lookup las_release las_cutting_list las_release_by_list las_mend
    cutting_list mend mend_verdict kept cons_if header.header_read step_of point_at_of points.decoded encoding.encoded points.decode_checks encoding.encode_checks lookup_checks halving_checks release_checks list_checks by_list_checks Without is_zero
each_number =
    record {
      check_file = λ file. follows (number_of (file_verdict file)) (file_checks file) (file_above file) (ap number_of (file_first file));
      check_sheet = λ sheet. by_sheet sheet (number_of (sheet_verdict sheet)) refl;
      read_header =
          λ file. follows _ (file_checks file) (file_above file) (header_number (file_verdict file) _ ∙ ap number_of (file_first file));
      vlr_step = λ file index position. behind_file file (step_checks file index position) _ (refl, tt) (step_number _ _ _);
      point_at = λ file index. behind_file file (point_checks file index) _ (refl, tt) (point_number _ _ _);
      decode = λ format len bytes. follows _ (points.decode_checks format len bytes) (refl, tt) (decoded_number _ _);
      encode = λ format len p room. follows _ (encoding.encode_checks format len (given_point p) room) (refl, (refl, tt)) (encoded_number _ _ room);
      class_kept = λ sheet class. by_sheet sheet _ (kept_number (sheet_verdict sheet) _);
      class_test = λ sheet class. by_sheet sheet _ ((numbers_under (sheet_verdict sheet) _ _).0 ∙ kept_number (sheet_verdict sheet) _);
      record_kept = λ sheet user id. by_sheet sheet _ (kept_number (sheet_verdict sheet) _);
      geokey_find =
          λ file key. by_search file (entry_of (searched file) key) _ (looked_up file (entry_of (searched file) key));
      geokey_halve =
          λ file key.
          by_search file (halve (searched file) key).entry _
          (ap (λ (g : GeoKey). (geokey_numbers g).number) (found_is file key) ∙ looked_up file (halve (searched file) key).entry);
      release =
          λ file sheet out.
          behind_file file (sheet_checks sheet ++ room_checks sheet file out) _
          (without_both 0 (sheet_checks sheet) (room_checks sheet file out) (sheet_above sheet) (refl, tt)) (released_number file sheet out);
      cutting_list =
          λ file sheet list.
          behind_file file (sheet_checks sheet ++ line_checks_of sheet file list) _
          (without_both 0 (sheet_checks sheet) (line_checks_of sheet file list) (sheet_above sheet) (refl, tt))
          (listed_number (list_verdict sheet file (length list)) (cutting_lines sheet file) list ∙ ap number_of (list_first sheet file list));
      release_by_list =
          λ file sheet out list.
          behind_file file (sheet_checks sheet ++ both_checks sheet file out list) _
          (without_both 0 (sheet_checks sheet) (both_checks sheet file out list) (sheet_above sheet) (refl, (refl, tt))) (listed_released file sheet out list);
      mend =
          λ file.
          follows _ (mend_checks file) (refl, (refl, (refl, (refl, (refl, (refl, (refl, (refl, (refl, tt))))))))) (mended_number (mend_verdict file) file);
    }

pub demand1 : Demand1
demand1 =
    record {
      nothing_changed = nothing_changed;
      zeros_beside = zeros_beside;
      tables = table_laws;
      sheet_verdict = sheet_first;
      each_number = each_number;
    }
