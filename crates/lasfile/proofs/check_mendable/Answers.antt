-- `lasfile::check_mendable` meets its contract. Assumes nothing.
use mathlib.Core.Path.{sym, ap, ◌∙◌}
use Rattle.fields.specs.Checks.{Fails}
use Rattle.fields.specs.Refusals.{refusal_number}
use Rattle.fields.proofs.RefusalLaws.{only_9}
use Rattle.lasfile.proofs.Passed.{passing_mends, refused_with_9, refused_alike}
use Rattle.lasfile.proofs.check_mendable.Goals as goal

pub returns-in-Ok : goal.returns-in-Ok
returns-in-Ok c = sym (passing_mends c.args.file.now (sym c.in-Ok.ensures))

pub returns-in-PointsPastEnd : goal.returns-in-PointsPastEnd
returns-in-PointsPastEnd c =
    c.check_scaling.ensures
    ∙ sym (refused_with_9 c.args.file.now (sym c.in-Err.ensures ∙ ap (λ r. Fails (refusal_number r)) c.in-PointsPastEnd.is))

pub returns-in_default : goal.returns-in_default
returns-in_default c =
    sym (refused_alike c.args.file.now (refusal_number c.in-Err.refusal)
    (λ nine. c.in_default.not-PointsPastEnd (only_9 c.in-Err.refusal nine)) (sym c.in-Err.ensures))
