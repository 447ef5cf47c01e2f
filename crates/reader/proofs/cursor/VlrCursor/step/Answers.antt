-- `cursor::VlrCursor::step` meets its contract. Assumes nothing.
use mathlib.Core.Path.{◌≡◌, sym, ◌∙◌, subst}
use mathlib.Core.Logic.{inl, inr}
use Rattle.std.proofs.Common.{rules}
use Prim.Native.Nat.{ℕ, ◌+◌, ◌≤◌, ◌<◌}
use native.Mathlib.Omega.{arith}
use borrow.Author.Tests.{le-ltb, lt-ltb, leb-true, leb-false}
use lib.Dec.{T, ltb, leb}
use lib.ListN.{drop}
use Rattle.fields.specs.Bytes.{Bytes}
use Rattle.fields.specs.Checks.{Passes}
use Rattle.lasfile.specs.Records.{size_of}
use Rattle.lasfile.proofs.vlr.FieldLaws.{size_of_lem}
use Rattle.lasfile.proofs.vlr.RecordLaws.{front_in_size}
use Rattle.lasfile.specs.HeaderFields.{point_offset, record_count}
use Rattle.lasfile.specs.FileChecks.{file_verdict}
use Rattle.reader.specs.Steps.{record_places, next_cursor, Step, Record}
use Rattle.reader.specs.declared.cursor.RecordPlaces.{RecordPlaces}
use Rattle.reader.proofs.cursor.StepLaws.{refused_by_file, refused_18, answered}
use Rattle.reader.proofs.cursor.VlrCursor.step.Goals.{After-fits_in, Else-not-fits_in, In_ok-check_file}
use Rattle.reader.proofs.cursor.VlrCursor.step.Goals as goal

-- the file passes, from the place where it was told so
passed : (c : In_ok-check_file) → file_verdict c.args.file.now ≡ Passes
passed c = sym c.in_ok-check_file.ensures

-- what is asked of the record at the position
ends : (c : After-fits_in) → let a = c.args in
    c.fits_in.result ≡ leb (a.self.position + size_of 2 (drop a.self.position a.file.now)) (point_offset a.file.now)
ends c = c.fits_in.ensures ∙ rw (c.size_at.ensures.0, c.point_offset.ensures.0)

ends_by : (c : Else-not-fits_in) → let a = c.args in
    a.self.position + size_of 2 (drop a.self.position a.file.now) ≤ point_offset a.file.now
ends_by c = leb-true _ _ (sym (ends (goal.at.places_at-places-requires c).After-fits_in) ∙ c.if-not-fits_in.false)

-- the place after a record, by its payload
next_place : (s : Bytes) (at : ℕ) (r : RecordPlaces) → r ≡ record_places s at → r.payload_place + r.payload_length ≡ at + size_of 2 (drop at s)
unfolding record_places
next_place s at r e = rw e (omega (arith, size_of_lem 2 (drop at s)))

-- a record and the place after it are what is answered
found : (s : Bytes) (index at : ℕ) (r : RecordPlaces) (next : ℕ) → r ≡ record_places s at → next ≡ at + size_of 2 (drop at s)
    → ◌≡◌ {A = Step} (Record r (record { index = index + 1; position = next })) (Record (record_places s at) (next_cursor s index at))
unfolding next_cursor
found s index at r next e f = rw (e, f)

index_below : (s : Bytes) (index : ℕ) → index < record_count s → T (ltb index (record_count s))
index_below s index h = subst T (sym (lt-ltb index (record_count s) h)) tt

pub returns-in_err-check_file : goal.returns-in_err-check_file
returns-in_err-check_file c =
    let refused = sym (refused_by_file c.args.file.now c.args.self.index c.args.self.position _ (sym c.in_err-check_file.ensures)) in search (rules, refused)

pub returns-then-record_count-index : goal.returns-then-record_count-index
returns-then-record_count-index c =
    let a = c.args in
    sym (refused_18 _ _ _ (passed (goal.at.returns-then-record_count-index c).In_ok-check_file) (inl (le-ltb a.self.index (record_count a.file.now) (omega arith))))

pub returns-then-position-header_size : goal.returns-then-position-header_size
returns-then-position-header_size c = sym (refused_18 _ _ _ (passed (goal.at.returns-then-position-header_size c).In_ok-check_file) (inr (inl (omega arith))))

pub returns-then-not-fits_in : goal.returns-then-not-fits_in
returns-then-not-fits_in c = sym (refused_18 _ _ _ (passed (goal.at.returns-then-not-fits_in c).In_ok-check_file) (inr (inr (leb-false _ _ (sym (ends (goal.at.returns-then-not-fits_in c).After-fits_in) ∙ c.if-not-fits_in.true)))))

pub places_at-places-requires : goal.places_at-places-requires
places_at-places-requires c =
    let a = c.args in
    omega (arith, ends_by c, front_in_size 2 (drop a.self.position a.file.now), c.point_offset.ensures)

pub overflow_add-next : goal.overflow_add-next
unfolding record_places
overflow_add-next c =
    let a = c.args in
    rw c.places_at-places.ensures
    (omega (arith, size_of_lem 2 (drop a.self.position a.file.now), ends_by (goal.at.overflow_add-next c).Else-not-fits_in, c.point_offset.ensures))

pub returns : goal.returns
returns c =
    let a = c.args in
    let places = c.places_at-places.ensures in
    let next = next_place a.file.now a.self.position _ places in
    let answer = answered a.file.now a.self.index a.self.position (passed (goal.at.returns c).In_ok-check_file) (index_below a.file.now a.self.index (omega arith), (omega arith, ends_by (goal.at.returns c).Else-not-fits_in)) in
    found _ a.self.index _ _ _ places next ∙ sym answer
