-- `vlr::Records` gives the record at hand, and goes on to the next. Assumes nothing.
use Rattle.std.proofs.Common.{arith}
use Rattle.lasfile.proofs.vlr.PlacedLaws.{placed_step}
use Rattle.lasfile.proofs.vlr.RecordsIterator.next.Goals as goal

pub returns-clause-steps : goal.returns-clause-steps
returns-clause-steps c = placed_step _ _ _ _ _ _ (omega arith) c.size_at-size.ensures.0 c.part_at.ensures
