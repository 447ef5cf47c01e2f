-- What the loop of `vlrs::copy_records` keeps: what the records still to walk make of the output is what all make of
-- it. Assumes nothing.
use Rattle.lasfile.specs.Records.{placed}
use Rattle.release.proofs.vlrs.KeptLaws.{Copying}
use Rattle.release.proofs.vlrs.copy_records.Given as goal

abbrev pub invariant-loop-vlr : goal.invariant-loop-vlr
invariant-loop-vlr l =
    Copying l.sheet l.file l.initial.out l.out (placed l.vlr-iterator.left l.vlr-iterator.place l.vlr-iterator.rest.now) l.to
