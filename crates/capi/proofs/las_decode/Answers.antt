-- `capi::las_decode` meets its contract. Assumes nothing.
use mathlib.Core.Path.{◌∙◌, ap}
use Rattle.capi.specs.PointAnswers.{decoded_numbers}
use Rattle.capi.specs.Interface.{las_decode}
use Rattle.capi.proofs.las_decode.Goals as goal

pub returns : goal.returns
unfolding las_decode
returns c = c.from.ensures ∙ ap decoded_numbers c.decode.ensures
