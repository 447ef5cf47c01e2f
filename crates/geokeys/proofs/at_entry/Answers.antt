-- `geokeys::at_entry` meets its contract. Assumes nothing.
use mathlib.Core.Path.{◌∙◌}
use Rattle.geokeys.specs.GeoKeys.{from_entry}
use Rattle.geokeys.specs.Places.{entry_in}
use Rattle.geokeys.proofs.at_entry.Goals as goal

pub returns-in-Some : goal.returns-in-Some
unfolding entry_in
returns-in-Some c = c.from_entry.ensures ∙ rw c.in-Some.is

pub returns-in-None : goal.returns-in-None
unfolding entry_in from_entry
returns-in-None c = rw c.in-None.is
