-- What the loop of `geokeys::find_entry` keeps: the first entry of the key is the first of those still to look at.
-- Assumes nothing.
use Rattle.std.proofs.Common.{◌≡◌, drop}
use Rattle.geokeys.specs.GeoKeys.{entry_of}
use Rattle.geokeys.proofs.find_entry.Given as goal

abbrev pub invariant-loop-entry : goal.invariant-loop-entry
invariant-loop-entry l = record { same : entry_of (drop l.entry-index l.entries) l.key ≡ entry_of l.entries l.key }
