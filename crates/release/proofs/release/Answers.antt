-- `release` meets its contract. Assumes nothing.
use mathlib.Core.Path.{◌≡◌, sym, ap, ◌∙◌}
use mathlib.Core.List.{◌++◌}
use Prim.Native.Nat.{ℕ, ◌+◌, ◌-◌, ◌*◌, ◌^◌, ◌≤◌, ◌<◌}
use native.Mathlib.Omega.{arith}
use lib.ListN.{length}
use Rattle.fields.specs.Bytes.{AllBytes, zeros}
use Rattle.fields.specs.Checks.{Passes}
use Rattle.lasfile.specs.FileChecks.{file_verdict}
use Rattle.sheet.specs.Sheet.{sheet_verdict}
use Rattle.publicpart.specs.Public.{public_of}
use Rattle.publicpart.specs.Render.{render}
use Rattle.publicpart.specs.Release.{Released, Short, release, refuse_or}
use Rattle.fields.proofs.CheckLaws.{then_first, then_passed}
use Rattle.std.proofs.Common.{rules}
use Rattle.publicpart.proofs.AnswerLaws.{release_short, release_long}
use Rattle.release.specs.Assembly.{end_of_points}
use Rattle.release.proofs.AssemblyLaws.{assembled, Sized, sized}
use Rattle.release.proofs.assembly.PointLaws.{points_end, end_most, asked_enough, asked_short}
use Rattle.release.proofs.release.Goals.{After-of-keeper, After-record_length, After-shared_slice_known-1, In_ok-check_both}
use Rattle.release.proofs.release.Goals as goal

file_bytes : (c : After-shared_slice_known-1) → AllBytes c.args.file.now
file_bytes c i = omega (arith, c.type_inv.file i)

file_bytes_at_after_of_keeper : (c : After-of-keeper) → AllBytes c.args.file.now
file_bytes_at_after_of_keeper c i = omega (arith, c.type_inv.file i)

file_passes : (c : In_ok-check_both) → file_verdict c.args.file.now ≡ Passes
file_passes c = then_first _ _ (sym c.in_ok-check_both.ensures)

file_passes_at_after_of_keeper : (c : After-of-keeper) → file_verdict c.args.file.now ≡ Passes
file_passes_at_after_of_keeper c = then_first _ _ (sym c.in_ok-check_both.ensures)

sheet_passes : (c : In_ok-check_both) → sheet_verdict c.args.sheet.now ≡ Passes
sheet_passes c = then_passed _ _ (sym c.in_ok-check_both.ensures)

sizes : (c : After-of-keeper)
    → let a = c.args in
    Sized a.sheet.now a.file.now c.of-keeper.result c.measure-kept.result
sizes c =
    sized _ _ (file_bytes_at_after_of_keeper c) (file_passes_at_after_of_keeper c) c.of-keeper.result c.of-keeper.ensures.table c.of-keeper.ensures.boxes _ c.measure-kept.ensures

pub returns-in_err-check_both : goal.returns-in_err-check_both
unfolding release refuse_or
returns-in_err-check_both c =
    search (rules, c.in_err-check_both.ensures)

pub room_for-needed-requires : goal.room_for-needed-requires
room_for-needed-requires c = omega (arith, (sizes (goal.at.room_for-needed-requires c).After-of-keeper).most, c.well_formed)

-- 30 returns the needed length
pub returns-then-out-needed : goal.returns-then-out-needed
returns-then-out-needed c =
    let a = c.args in
    let m = sizes (goal.at.returns-then-out-needed c).After-of-keeper in
    let keeper = c.of-keeper.result in
    let start = c.measure-kept.result.end in
    let asked = c.room_for-needed in
    let needed : asked.result ≡ length (render (public_of a.sheet.now a.file.now)) =
    asked.ensures ∙ asked_short keeper a.file.now start (length a.out.now) (omega (arith, asked.ensures)) ∙ m.needed in
    ap (λ (n : ℕ). (Short n, a.out.now)) needed
    ∙ sym (release_short _ _ _ (file_passes (goal.at.returns-then-out-needed c).In_ok-check_both) (sheet_passes (goal.at.returns-then-out-needed c).In_ok-check_both) (omega (arith, needed)))

pub write-points-requires : goal.write-points-requires
write-points-requires c =
    let a = c.args in
    let asked = c.room_for-needed in
    asked_enough c.of-keeper.result a.file.now c.measure-kept.result.end (length a.out.now) (omega (arith, asked.ensures))

-- the length that is returned
length_is : (c : After-record_length)
    → let a = c.args in
    c.measure-kept.result.end + c.write-points.result * c.record_length.result
    ≡ end_of_points c.of-keeper.result a.file.now c.measure-kept.result.end
length_is c = rw (points_end, c.write-points.ensures.0, c.record_length.ensures.0)

small : (c : After-record_length)
    → let a = c.args in
    end_of_points c.of-keeper.result a.file.now c.measure-kept.result.end < 2 ^ 64
small c =
    omega (arith, end_most c.of-keeper.result c.args.file.now c.measure-kept.result.end, (sizes (goal.at.overflow_mul-length c).After-of-keeper).most, c.well_formed)

pub overflow_mul-length : goal.overflow_mul-length
overflow_mul-length c = omega (arith, length_is c, small c)

pub overflow_add-length : goal.overflow_add-length
overflow_add-length c = omega (arith, length_is c, small c)

-- the output is the released file and zeros
output_is : (c : After-record_length)
    → let a = c.args in
    let p = public_of a.sheet.now a.file.now in
    length (render p) ≤ length a.out.now → c.write-points.new.out ≡ render p ++ zeros (length a.out.now - length (render p))
output_is c room =
    let a = c.args in
    let keeper = c.of-keeper in
    let m = sizes (goal.at.overflow_mul-length c).After-of-keeper in
    c.write-points.ensures.1
    ∙ rw (m.records, m.offset) (assembled a.sheet.now a.file.now (file_bytes (goal.at.overflow_mul-length c).After-shared_slice_known-1) (file_passes (goal.at.overflow_mul-length c).In_ok-check_both) keeper.result keeper.ensures.table keeper.ensures.boxes a.out.now room)

-- the numbers are the released file's length, its points and its records
pub returns : goal.returns
returns c =
    let a = c.args in
    let p = public_of a.sheet.now a.file.now in
    let m = sizes (goal.at.returns c).After-of-keeper in
    let k = c.measure-kept.result in
    let wrote = c.write-points in
    let enough = asked_enough c.of-keeper.result a.file.now k.end (length a.out.now) (omega (arith, c.room_for-needed.ensures)) in
    let room : length (render p) ≤ length a.out.now = omega (arith, enough, m.needed) in
    let long : k.end + wrote.result * c.record_length.result ≡ length (render p) = length_is c ∙ m.needed in
    let number : wrote.result ≡ length p.points = wrote.ensures.0 ∙ m.points in
    let numbers : Released (k.end + wrote.result * c.record_length.result) wrote.result k.count ≡ Released (length (render p)) (length p.points) (length p.records) =
    rw (long, number, m.records) in
    (λ i. (numbers i, output_is c room i))
    ∙ sym (release_long _ _ _ (file_passes (goal.at.returns c).In_ok-check_both) (sheet_passes (goal.at.returns c).In_ok-check_both) room)
