-- `copier::copy_points` meets its contract. Assumes nothing.
use Rattle.std.proofs.Common.{◌≡◌, ◌*◌, arith, sym, ap, ◌∙◌, length}
use Rattle.tally.specs.declared.Tally.{Tally}
use lib.Seq.{sets}
use Rattle.fields.specs.Bytes.{join, zeros}
use Rattle.sheet.specs.Boxes.{keeps_by}
use Rattle.tally.proofs.TallyLaws.{tally_count}
use Rattle.release.specs.KeptPoints.{kept_of}
use Rattle.release.proofs.copier.BlockLaws.{length-kept_of}
use Rattle.release.proofs.copier.FrontLaws.{zeroed}
use Rattle.release.proofs.copier.copy_points.Goals.{After-copy_blocks-t}
use Rattle.release.proofs.copier.copy_points.Goals as goal

-- the bytes that they take
taken : (c : After-copy_blocks-t)
    → let a = c.args in
    c.copy_blocks-t.result.count * a.points.record_length ≡ length (join (kept_of (keeps_by a.keeper.now.table a.keeper.now.boxes a.points.format) a.points))
taken c =
    let a = c.args in
    let keep = keeps_by a.keeper.now.table a.keeper.now.boxes a.points.format in
    let number : c.copy_blocks-t.result.count ≡ length (kept_of keep a.points) = ap (λ (t : Tally). t.count) c.copy_blocks-t.ensures.0 ∙ tally_count a.points.format (kept_of keep a.points) in
    rw number (sym (length-kept_of keep a.points))

pub overflow_mul-to : goal.overflow_mul-to
overflow_mul-to c =
    let a = c.args in
    let keep = keeps_by a.keeper.now.table a.keeper.now.boxes a.points.format in
    record { fits = omega (arith, taken (goal.at.overflow_mul-to c).After-copy_blocks-t, length-kept_of keep a.points, c.requires, c.well_formed) }

pub returns : goal.returns
returns c =
    let a = c.args in
    let f = c.copy_blocks-t in
    let bytes = join (kept_of (keeps_by a.keeper.now.table a.keeper.now.boxes a.points.format) a.points) in
    let to = f.result.count * a.points.record_length in
    let rest : c.zero.new.dst ≡ sets f.new.out to (zeros (length a.out.now)) = c.zero.ensures in
    (f.ensures.0, rest ∙ rw f.ensures.1 (zeroed a.out.now bytes to (taken (goal.at.returns c).After-copy_blocks-t)))
