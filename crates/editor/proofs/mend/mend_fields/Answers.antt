-- `mend::mend_fields` meets its contract. Assumes nothing.
use mathlib.Core.Path.{sym, ap, ◌∙◌}
use native.Mathlib.Omega.{arith}
use Rattle.fields.specs.Bytes.{AllBytes}
use Rattle.lasfile.proofs.Passed.{mendable}
use Rattle.tally.specs.Tally.{tally_bounds}
use Rattle.editor.proofs.MendLaws.{counts_low, marks_are, mend_accepted, stored}
use Rattle.editor.proofs.mend.mend_fields.Goals.{After-slice_known-1}
use Rattle.editor.proofs.mend.mend_fields.Goals as goal

file_bytes : (c : After-slice_known-1) → AllBytes c.args.file.now
file_bytes c i = omega (arith, c.slice_known-1.given i)

pub tally_there-tally-requires : goal.tally_there-tally-requires
tally_there-tally-requires c = c.requires

pub marks_for-marks-requires : goal.marks_for-marks-requires
marks_for-marks-requires c =
    let m = mendable _ c.requires in
    (m.whole, counts_low _ _ c.tally_there-tally.ensures m (file_bytes (goal.at.marks_for-marks-requires c).After-slice_known-1))

pub returns : goal.returns
returns c =
    let s = c.args.file.now in
    let tally = c.tally_there-tally.ensures in
    let around = c.tally_bounds-bounds.ensures ∙ ap (tally_bounds c.tally_there-tally.result) c.read.ensures in
    let long = (mendable s c.requires).whole in
    sym (
    mend_accepted s c.requires
    ∙ rw (← marks_are s _ tally long _ around, ← stored s _ _ _ _ tally around c.put_counts.ensures c.put_bounds.ensures, ← c.marks_for-marks.ensures)
    )
