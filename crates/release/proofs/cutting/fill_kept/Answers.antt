-- `cutting::fill_kept` meets its contract. Assumes nothing.
use Rattle.release.proofs.cutting.FillingIn.{has_more, next_turn, at_end}
use Rattle.release.proofs.cutting.fill_kept.Goals as goal

pub next_line-t-requires : goal.next_line-t-requires
next_line-t-requires c =
    let a = c.args in
    let l = c.loop-t in
    let more = has_more a.sheet.now a.keeper.now a.file.now a.n a.list.now c.requires.0 c.requires.1 l.t l.list l.invariant c.loop-t-test.true in
    (l.invariant.ready, l.invariant.hand, more)

pub loop-t-preserved : goal.loop-t-preserved
loop-t-preserved c =
    let a = c.args in
    let l = c.loop-t in
    let next = c.next_line-t.ensures in
    next_turn a.sheet.now a.keeper.now a.file.now a.n a.list.now c.requires.0 c.requires.1 l.t l.list l.invariant c.loop-t-test.true
    c.next_line-t.result next.0 next.1 c.put_line.new.list c.put_line.ensures

pub returns : goal.returns
returns c =
    let a = c.args in
    let l = c.loop-t in
    at_end a.sheet.now a.keeper.now a.file.now a.n a.list.now c.requires.0 c.requires.1 l.t l.list l.invariant c.loop-t-test.false
