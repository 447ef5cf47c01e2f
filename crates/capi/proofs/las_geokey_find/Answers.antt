-- `capi::las_geokey_find` meets its contract. Assumes nothing.
use mathlib.Core.Path.{◌∙◌, ap}
use Rattle.capi.specs.RecordAnswers.{geokey_numbers}
use Rattle.capi.specs.Interface.{las_geokey_find}
use Rattle.capi.proofs.las_geokey_find.Goals as goal

pub returns : goal.returns
unfolding las_geokey_find
returns c = c.from.ensures ∙ ap geokey_numbers c.find.ensures
