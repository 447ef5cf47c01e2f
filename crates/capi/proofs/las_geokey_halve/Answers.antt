-- `capi::las_geokey_halve` meets its contract. Assumes nothing.
use mathlib.Core.Path.{◌∙◌, ap}
use Rattle.capi.specs.RecordAnswers.{read_numbers}
use Rattle.capi.specs.Interface.{las_geokey_halve}
use Rattle.capi.proofs.las_geokey_halve.Goals as goal

pub returns : goal.returns
unfolding las_geokey_halve
returns c = c.from.ensures ∙ ap read_numbers c.find_by_halving.ensures.0
