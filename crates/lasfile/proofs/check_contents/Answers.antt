-- `lasfile::check_contents` meets its contract. Assumes nothing.
use mathlib.Core.Path.{◌≡◌, sym, ◌∙◌}
use Prim.Native.Nat.{◌+◌, ◌*◌, ◌≤◌}
use native.Mathlib.Omega.{arith}
use borrow.Author.Tests.{leb-true, leb-false}
use lib.Dec.{leb}
use Rattle.fields.proofs.CheckLaws.{first_fails, first_clear}
use Rattle.lasfile.proofs.Passed.{product_small}
use Rattle.lasfile.specs.HeaderFields.{point_offset, record_length, point_count}
use Rattle.lasfile.specs.FileChecks.{records_end}
use Rattle.lasfile.proofs.check_contents.Goals.{After-point_count-points, After-records_fit, Else-not-records_fit}
use Rattle.lasfile.proofs.check_contents.Goals as goal

-- what walking the records says
ends : (c : After-records_fit) → c.records_fit.result ≡ leb (records_end c.args.file.now) (point_offset c.args.file.now)
ends c = c.records_fit.ensures ∙ rw c.point_offset-offset.ensures.0

pub record_length-length-requires : goal.record_length-length-requires
record_length-length-requires c = tt

walked : (c : Else-not-records_fit) → records_end c.args.file.now ≤ point_offset c.args.file.now
walked c = leb-true _ _ (sym (ends (goal.at.record_length-length-requires c).After-records_fit) ∙ c.if-not-records_fit.false)

-- the end of the points, as it was summed up
points_end : (c : After-point_count-points) → c.point_offset-offset.result + c.point_count-points.result * c.record_length-length.result
    ≡ point_offset c.args.file.now + point_count c.args.file.now * record_length c.args.file.now
points_end c = rw (c.point_count-points.ensures.0, c.record_length-length.ensures.0, c.point_offset-offset.ensures.0)

pub returns-then-not-records_fit : goal.returns-then-not-records_fit
returns-then-not-records_fit c = sym (first_fails _ _ _ (leb-false _ _ (sym (ends (goal.at.returns-then-not-records_fit c).After-records_fit) ∙ c.if-not-records_fit.true)))

pub overflow_mul-points : goal.overflow_mul-points
overflow_mul-points c = omega (arith, product_small c.point_count-points.result c.record_length-length.result (omega arith) (omega arith))

pub overflow_add-offset : goal.overflow_add-offset
overflow_add-offset c = omega (arith, product_small c.point_count-points.result c.record_length-length.result (omega arith) (omega arith))

pub returns-then-file-offset : goal.returns-then-file-offset
returns-then-file-offset c = sym (first_clear _ _ _ (walked (goal.at.returns-then-file-offset c).Else-not-records_fit) ∙ first_fails _ _ _ (omega (arith, points_end (goal.at.returns-then-file-offset c).After-point_count-points)))

pub returns : goal.returns
returns c =
    c.check_scaling.ensures
    ∙ sym (first_clear _ _ _ (walked (goal.at.returns c).Else-not-records_fit) ∙ first_clear _ _ _ (omega (arith, points_end (goal.at.returns c).After-point_count-points)))
