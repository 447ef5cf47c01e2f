-- `sheet::check_sheet` meets its contract. Assumes nothing.
use mathlib.Core.Path.{refl}
use Rattle.std.proofs.Common.{rules}
use Rattle.sheet.proofs.WalkLaws.{walk_begun, walk_fails, walk_next, walk_passes, walk_full}
use Rattle.sheet.proofs.check_sheet.Goals as goal

pub loop-init : goal.loop-init
loop-init c = (tt, tt, walk_begun _ _ (search rules))

pub returns-in_err-check_line : goal.returns-in_err-check_line
returns-in_err-check_line c =
    let refused = walk_fails _ _ _ c.loop.invariant.2 _ _ c.in-Some.ensures.steps _ _ c.in_err-check_line.ensures refl in
    search (rules, refused)

pub loop-preserved : goal.loop-preserved
loop-preserved c =
    (tt, tt, walk_next _ _ _ c.loop.invariant.2 _ _ c.in-Some.ensures.steps _ _ c.in_ok-check_line.ensures refl c.after_line-rest.ensures)

pub returns-then-is_empty : goal.returns-then-is_empty
returns-then-is_empty c = walk_passes _ _ _ c.loop.invariant.2 (search rules)

pub returns-else-is_empty : goal.returns-else-is_empty
returns-else-is_empty c = walk_full _ _ _ c.loop.invariant.2 c.in-None.ensures.steps.0 (search rules)
