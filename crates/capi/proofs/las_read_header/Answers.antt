-- `capi::las_read_header` meets its contract. Assumes nothing.
use mathlib.Core.Path.{◌∙◌, ap}
use Rattle.capi.specs.HeaderAnswers.{header_numbers}
use Rattle.capi.specs.Interface.{las_read_header}
use Rattle.capi.proofs.las_read_header.Goals as goal

pub returns : goal.returns
unfolding las_read_header
returns c = c.from.ensures ∙ ap header_numbers c.read_header.ensures
