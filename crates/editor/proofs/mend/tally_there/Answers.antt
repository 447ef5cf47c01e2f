-- `mend::tally_there` meets its contract: the run holds the points. Assumes nothing.
use mathlib.Core.Path.{◌≡◌, ap, ◌∙◌}
use Prim.Native.Nat.{ℕ}
use native.Mathlib.Omega.{arith}
use lib.ListN.{drop}
use Rattle.fields.specs.Bytes.{Bytes, AllBytes}
use Rattle.fields.proofs.ByteLaws.{from_place}
use Rattle.lasfile.specs.HeaderFields.{point_offset}
use Rattle.lasfile.proofs.Passed.{mendable}
use Rattle.editor.proofs.MendLaws.{tally_there}
use Rattle.editor.proofs.mend.tally_there.Goals as goal

pub returns : goal.returns
returns c =
    let s : Bytes = c.args.file.now in
    let bytes : AllBytes s = λ i. omega (arith, c.type_inv.file i) in
    let from_offset : c.part_at-run.result.now ≡ drop (point_offset s) s =
    c.part_at-run.ensures ∙ from_place s c.point_offset-offset.result ∙ ap (λ (at : ℕ). drop at s) c.point_offset-offset.ensures.0 in
    tally_there s (mendable s c.requires) bytes _ _ _ _ _ _ c.fresh.ensures c.format-format.ensures.0 c.record_length-record_length.ensures.0
    c.points_there-count.ensures from_offset c.tally_more.ensures
