-- `lasfile::check_scaling` meets its contract. Assumes nothing.
use mathlib.Core.Path.{◌≡◌, sym, ap, ◌∙◌, subst}
use mathlib.Core.List.{[]}
use lib.Dec.{T}
use Rattle.fields.specs.Checks.{not_so}
use Rattle.fields.proofs.CheckLaws.{first_fails, all_clear}
use Rattle.scaling.specs.Scaling.{scaling_of, good_scaling}
use Rattle.lasfile.proofs.check_scaling.Goals.{After-is_good}
use Rattle.lasfile.proofs.check_scaling.Goals as goal

good : (c : After-is_good) → c.is_good.result ≡ good_scaling (scaling_of c.args.file.now)
good c = c.is_good.ensures ∙ ap good_scaling c.read.ensures

pub returns-then-not-is_good : goal.returns-then-not-is_good
returns-then-not-is_good c =
    let s = c.args.file.now in
    sym (first_fails 10 (not_so (good_scaling (scaling_of s))) [] (sym (good (goal.at.returns-then-not-is_good c).After-is_good) ∙ c.if-not-is_good.true))

pub returns : goal.returns
returns c = sym (all_clear _ (subst T (sym (sym (good (goal.at.returns c).After-is_good) ∙ c.if-not-is_good.false)) tt, tt))
