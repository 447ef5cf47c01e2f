-- `by_list::release_by_list` meets its contract: what the calls require, and that together they do what is to be done,
-- is `ByListLaws.antt`'s. Assumes nothing.
use mathlib.Core.Path.{◌≡◌, refl}
use native.Mathlib.Omega.{arith}
use Rattle.std.proofs.Common.{rules}
use Rattle.fields.specs.Bytes.{AllBytes}
use Rattle.publicpart.specs.Answers.{taken}
use Rattle.publicpart.specs.Cutting.{release_by_list}
use Rattle.release.proofs.by_list.ByListLaws.{lines_fit, all_put, items_fit, answer_fits, together, as_they_were}
use Rattle.release.proofs.by_list.release_by_list.Goals.{In_ok-released, After-fill_list}
use Rattle.release.proofs.by_list.release_by_list.Goals as goal

-- what is answered, as it was decided
decided : (c : In_ok-released)
    → taken c.in_ok-released.released ≡ (release_by_list c.args.sheet.now c.args.file.now c.args.out.now c.args.list.now).0.0
decided c = c.in_ok-released.ensures c.args.out.now c.args.list.now refl refl

bytes : (c : In_ok-released) → AllBytes c.args.file.now
bytes c i = omega (arith, c.type_inv.file i)

pub overflow_add-released : goal.overflow_add-released
overflow_add-released c =
    let a = c.args in
    let d = (goal.at.overflow_add-released c).In_ok-released in
    omega (arith, (lines_fit a.sheet.now a.file.now a.out.now a.list.now _ (bytes d) (decided d)).1, c.well_formed)

pub fill_list-requires : goal.fill_list-requires
fill_list-requires c =
    let a = c.args in
    let d = (goal.at.fill_list-requires c).In_ok-released in
    lines_fit a.sheet.now a.file.now a.out.now a.list.now _ (bytes d) (decided d)

pub write_lines-requires : goal.write_lines-requires
write_lines-requires c =
    let a = c.args in
    let d = (goal.at.write_lines-requires c).In_ok-released in
    rw (c.fill_list.ensures, all_put a.sheet.now a.file.now a.out.now a.list.now _ (bytes d) (decided d)) (items_fit a.sheet.now a.file.now a.out.now a.list.now _ (bytes d) (decided d))

pub finish-requires : goal.finish-requires
finish-requires c =
    let a = c.args in
    let d = (goal.at.finish-requires c).In_ok-released in
    rw c.write_lines.auto.out (answer_fits a.sheet.now a.file.now a.out.now a.list.now _ (bytes d) (decided d))

pub returns : goal.returns
returns c =
    let a = c.args in
    let d = (goal.at.returns c).In_ok-released in
    rw (c.finish.ensures, c.write_lines.ensures, c.fill_list.ensures, all_put a.sheet.now a.file.now a.out.now a.list.now _ (bytes d) (decided d)) (together a.sheet.now a.file.now a.out.now a.list.now _ (bytes d) (decided d))

pub returns-in_err-released : goal.returns-in_err-released
returns-in_err-released c =
    let a = c.args in
    let decided = c.in_err-released.ensures a.out.now a.list.now refl refl in
    let refused = as_they_were a.sheet.now a.file.now a.out.now a.list.now _ decided in
    search (rules, refused)
