-- What the loop of `vlrs::measure` keeps: the records still to walk make up what is missing of the sums. Assumes
-- nothing.
use Rattle.lasfile.specs.Records.{placed}
use Rattle.release.proofs.vlrs.KeptLaws.{Measuring}
use Rattle.release.proofs.vlrs.measure.Given as goal

abbrev pub invariant-loop-vlr : goal.invariant-loop-vlr
invariant-loop-vlr l =
    Measuring l.sheet l.file (placed l.vlr-iterator.left l.vlr-iterator.place l.vlr-iterator.rest.now) l.count l.end
