-- `boxes::boxes_of` meets its contract. Assumes nothing.
use Rattle.sheet.proofs.boxes.ReadLaws.{read_begun, room, read_next, read_ended}
use Rattle.sheet.proofs.boxes.boxes_of.Goals as goal

pub loop-line-init : goal.loop-line-init
loop-line-init c =
    let same = c.into_iter-line-iterator.ensures.into_iter_gives in
    let new = c.new-line-items.ensures in
    rw c.default-boxes.ensures (tt, tt, read_begun _ _ (rw same new))

pub take_line-requires : goal.take_line-requires
take_line-requires c = room _ _ _ c.loop-line.invariant.2 _ _ c.in-Some.ensures.steps

pub loop-line-preserved : goal.loop-line-preserved
loop-line-preserved c = rw c.take_line.ensures (tt, tt, read_next _ _ _ c.loop-line.invariant.2 _ _ c.in-Some.ensures.steps)

pub returns : goal.returns
returns c = read_ended _ _ _ c.loop-line.invariant.2 c.in-None.ensures.steps.0
