-- `sheet::check_body` meets its contract. Assumes nothing.
use Rattle.std.proofs.Common.{◌∙◌, sym, arith}
use Rattle.fields.proofs.CheckLaws.{first_fails}
use Rattle.sheet.specs.Sheet.{kind, line_checks}
use Rattle.sheet.proofs.LineLaws.{unknown}
use Rattle.sheet.proofs.check_body.Goals as goal

pub returns-in_default : goal.returns-in_default
unfolding line_checks
returns-in_default c =
    let none = unknown (kind c.args.rest.now) (sym c.of.ensures ∙ c.in_default.is) in
    sym (first_fails 21 _ _ (omega (arith, none)))
