-- `add_point` meets its contract. Assumes nothing.
use Rattle.points.proofs.raw.RawLaws.{return_small}
use Rattle.tally.proofs.CountLaws.{one_few}
use Rattle.tally.proofs.TallyLaws.{tallied_by}
use Rattle.tally.proofs.add_point.Goals as goal

pub one_in-one-requires : goal.one_in-one-requires
one_in-one-requires c =
    (c.requires.1, rw c.return_of.ensures (return_small c.args.format c.args.point.now))

pub step-requires : goal.step-requires
step-requires c = (c.requires.0, rw c.one_in-one.ensures (one_few _))

pub returns : goal.returns
returns c =
    let a = c.args in
    tallied_by a.format a.t _ _ _ _ a.point.now c.step.ensures c.one_in-one.ensures c.return_of.ensures c.stored_of.ensures
