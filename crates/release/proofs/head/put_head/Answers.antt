-- `head::put_head` meets its contract: each group is written behind the one before it. Assumes nothing.
use mathlib.Core.Path.{sym, ap}
use native.Mathlib.Omega.{arith}
use lib.Seq.{sets}
use Rattle.release.proofs.head.HeadLaws.{no_head, head_stored}
use Rattle.release.proofs.head.put_head.Goals as goal

pub returns-then-source-lt-HEADER_BLOCK : goal.returns-then-source-lt-HEADER_BLOCK
returns-then-source-lt-HEADER_BLOCK c = let a = c.args in sym (ap (sets a.out.now 0) (no_head a.source.now a.totals (omega arith)))

pub returns : goal.returns
returns c =
    let a = c.args in
    let s = a.source.now in
    head_stored s a.totals c.if-source-lt-HEADER_BLOCK.false a.out.now _ _ _ _ _ (c.put_front.ensures a.totals) c.put_middle.ensures
    c.part_at.ensures
    c.copy.ensures
    c.put_bounds.ensures
