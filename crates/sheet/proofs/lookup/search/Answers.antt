-- `lookup::search` meets its contract. Assumes nothing.
use Rattle.std.proofs.Common.{rules, sym}
use Rattle.sheet.proofs.LineLaws.{at_most_64}
use Rattle.sheet.proofs.lookup.SearchLaws.{begin, here, next, end}
use Rattle.sheet.proofs.lookup.search.Goals as goal

pub loop-line-init : goal.loop-line-init
loop-line-init g c = (tt, tt, begin (g.S.Sought.is_kept_by c.args.sought.now) _ _ (search rules) (at_most_64 _))

pub returns-then-is_kept_by : goal.returns-then-is_kept_by
returns-then-is_kept_by g c = sym (here _ _ c.loop-line.looked _ c.loop-line.invariant.2 _ _ c.in-Some.ensures.steps (search rules))

pub loop-line-preserved : goal.loop-line-preserved
loop-line-preserved g c = (tt, tt, next _ _ c.loop-line.looked _ c.loop-line.invariant.2 _ _ c.in-Some.ensures.steps (search rules))

pub returns : goal.returns
returns g c = sym (end _ _ c.loop-line.looked _ c.loop-line.invariant.2 (search rules))
