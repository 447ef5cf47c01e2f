-- `cutting::decide_list` meets its contract. Assumes nothing.
use mathlib.Core.Path.{◌≡◌, sym, ap, ◌∙◌}
use Prim.Native.Nat.{◌+◌, ◌^◌, ◌<◌}
use native.Mathlib.Omega.{arith}
use lib.ListN.{length}
use Rattle.fields.specs.Bytes.{AllBytes}
use Rattle.fields.specs.Checks.{Passes, then}
use Rattle.lasfile.specs.FileChecks.{file_verdict}
use Rattle.lasfile.proofs.Passed.{passed}
use Rattle.sheet.specs.Sheet.{sheet_verdict}
use Rattle.publicpart.specs.Public.{public_of}
use Rattle.publicpart.specs.Cutting.{Lines, cutting_list, list_verdict, list_under}
use Rattle.fields.proofs.CheckLaws.{then_first, then_passed}
use Rattle.std.proofs.Common.{rules}
use Rattle.publicpart.proofs.Sound.{sound_public}
use Rattle.publicpart.proofs.CuttingLaws.{list_short, list_long, length-cutting_lines}
use Rattle.release.specs.declared.vlrs.KeptRecords.{KeptRecords}
use Rattle.release.specs.KeptRecords.{measured}
use Rattle.release.proofs.cutting.decide_list.Goals.{After-struct_known-1, In_ok-check_both}
use Rattle.release.proofs.cutting.decide_list.Goals as goal

file_passes : (c : In_ok-check_both) → file_verdict c.args.file.now ≡ Passes
file_passes c = then_first _ _ (sym c.in_ok-check_both.ensures)

sheet_passes : (c : In_ok-check_both) → sheet_verdict c.args.sheet.now ≡ Passes
sheet_passes c = then_passed _ _ (sym c.in_ok-check_both.ensures)

-- the lines are as many as the kept records and points
lines_are : (c : After-struct_known-1)
    → let a = c.args in
    let p = public_of a.sheet.now a.file.now in
    c.measure-kept.result.count + c.points_kept.result ≡ length p.records + length p.points
unfolding measured
lines_are c =
    rw (ap (λ (k : KeptRecords). k.count) c.measure-kept.ensures, c.points_kept.ensures (file_passes (goal.at.overflow_add-lines c).In_ok-check_both))

few : (c : After-struct_known-1)
    → let a = c.args in
    let p = public_of a.sheet.now a.file.now in
    length p.records + length p.points < 2 ^ 64
few c =
    let bytes : AllBytes c.args.file.now = λ i. omega (arith, c.type_inv.file i) in
    let s = sound_public c.args.sheet.now c.args.file.now bytes (passed c.args.file.now (file_passes (goal.at.overflow_add-lines c).In_ok-check_both)) in
    omega (arith, s.record_count, s.point_count)

pub returns-in_err-check_both : goal.returns-in_err-check_both
unfolding cutting_list list_verdict list_under then
returns-in_err-check_both c list l =
    search (rules, c.in_err-check_both.ensures)

pub overflow_add-lines : goal.overflow_add-lines
overflow_add-lines c = omega (arith, lines_are c, few c)

pub returns-then-list_length-lines : goal.returns-then-list_length-lines
returns-then-list_length-lines c list l =
    let a = c.args in
    sym (ap (λ o. o.0) (list_short a.sheet.now a.file.now list (file_passes (goal.at.returns-then-list_length-lines c).In_ok-check_both) (sheet_passes (goal.at.returns-then-list_length-lines c).In_ok-check_both) (omega (arith, l, lines_are (goal.at.returns-then-list_length-lines c).After-struct_known-1, c.if-list_length-lines.true))))

pub returns : goal.returns
returns c list l =
    let a = c.args in
    let good = list_long a.sheet.now a.file.now list (file_passes (goal.at.returns c).In_ok-check_both) (sheet_passes (goal.at.returns c).In_ok-check_both) (omega (arith, l, lines_are (goal.at.returns c).After-struct_known-1, c.if-list_length-lines.false)) in
    ap Lines (lines_are (goal.at.returns c).After-struct_known-1 ∙ sym (length-cutting_lines a.sheet.now a.file.now)) ∙ sym (ap (λ o. o.0) good)
