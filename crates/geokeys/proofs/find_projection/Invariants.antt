-- What the loop of `geokeys::find_projection` keeps: the first place is the first of those still to look at. Assumes
-- nothing.
use Rattle.std.proofs.Common.{◌≡◌}
use Rattle.lasfile.specs.Records.{placed, counted}
use Rattle.geokeys.proofs.PlaceLaws.{place_among}
use Rattle.geokeys.proofs.find_projection.Given as goal

abbrev pub invariant-loop-vlr : goal.invariant-loop-vlr
invariant-loop-vlr l =
    record {
      same : place_among l.id (placed l.vlr-iterator.left l.vlr-iterator.place l.vlr-iterator.rest.now) ≡ place_among l.id (counted l.file);
    }
