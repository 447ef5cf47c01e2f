-- What makes `halving::halve` end: the number of entries left goes down. Assumes nothing.
use Rattle.std.proofs.Common.{length}
use Rattle.geokeys.proofs.halving.+halve.Given as goal

abbrev pub decreases-halve : goal.decreases-halve
decreases-halve l = length l.entries.now
