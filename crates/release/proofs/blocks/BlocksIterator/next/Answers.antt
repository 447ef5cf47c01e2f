-- The blocks of a run come one after the other. Assumes nothing.
use Rattle.std.proofs.Common.{arith}
use Rattle.release.proofs.blocks.SplitLaws.{takes_block}
use Rattle.release.proofs.blocks.BlocksIterator.next.Goals as goal

pub returns-clause-steps : goal.returns-clause-steps
returns-clause-steps c =
    takes_block c.args.self.now.rest c.split_at.result.0 c.split_at.result.1 c.min.result (omega arith) (omega arith) (omega arith) c.split_at.ensures

-- no record is left
pub returns-then-points-eq0-clause-steps : goal.returns-then-points-eq0-clause-steps
returns-then-points-eq0-clause-steps c = c.if-points-eq0.true
