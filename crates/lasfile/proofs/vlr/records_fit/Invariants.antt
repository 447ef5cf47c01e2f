-- What the loop of `vlr::records_fit` keeps: the records still to walk end where all of them do. Assumes nothing.
use Rattle.std.proofs.Common.{◌≡◌}
use Rattle.lasfile.specs.Records.{placed, counted}
use Rattle.lasfile.proofs.vlr.PlacedLaws.{all_fit}
use Rattle.lasfile.proofs.vlr.records_fit.Given as goal

abbrev pub invariant-loop-vlr : goal.invariant-loop-vlr
invariant-loop-vlr l =
    record {
      same : all_fit l.end (placed l.vlr-iterator.left l.vlr-iterator.place l.vlr-iterator.rest.now) ≡ all_fit l.end (counted l.file);
    }
