-- `capi::las_vlr_step` meets its contract. Assumes nothing.
use mathlib.Core.Path.{◌∙◌, ap}
use Rattle.capi.specs.RecordAnswers.{record_numbers}
use Rattle.capi.specs.Interface.{las_vlr_step}
use Rattle.capi.proofs.las_vlr_step.Goals as goal

pub returns : goal.returns
unfolding las_vlr_step
returns c = c.from.ensures ∙ ap record_numbers c.step.ensures
