-- `mend::points_there` meets its contract. Assumes nothing.
use mathlib.Core.Path.{◌≡◌, ◌∙◌}
use Prim.Native.Nat.{◌-◌, ◌/◌, min}
use native.Mathlib.Omega.{arith}
use lib.ListN.{length}
use Rattle.fields.specs.Bytes.{Bytes}
use Rattle.lasfile.specs.HeaderFields.{point_offset, record_length, point_count}
use Rattle.lasfile.proofs.Passed.{mendable}
use Rattle.editor.specs.Mend.{whole_records, mended_count}
use Rattle.editor.proofs.MendLaws.{record_long}
use Rattle.editor.proofs.mend.points_there.Goals as goal

pub overflow_sub-room : goal.overflow_sub-room
overflow_sub-room c =
    omega (arith, c.point_offset.ensures.0, (mendable c.args.file.now c.requires).offset_high)

pub nonzero_div-whole : goal.nonzero_div-whole
nonzero_div-whole c =
    omega (arith, c.record_length.ensures.0, record_long c.args.file.now (mendable c.args.file.now c.requires))

pub returns : goal.returns
unfolding mended_count whole_records
returns c =
    let s : Bytes = c.args.file.now in
    let count : c.point_count-stated.result ≡ point_count s = c.point_count-stated.ensures.0 in
    let offset : c.point_offset.result ≡ point_offset s = c.point_offset.ensures.0 in
    let long : c.record_length.result ≡ record_length s = c.record_length.ensures.0 in
    c.least.ensures ∙ (λ i. min (count i) ((length s - offset i) / long i))
