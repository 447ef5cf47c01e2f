-- `capi::las_record_kept` meets its contract. Assumes nothing.
use mathlib.Core.Path.{◌∙◌, ap}
use Rattle.capi.specs.Answers.{kept_numbers}
use Rattle.capi.specs.Interface.{las_record_kept}
use Rattle.capi.proofs.las_record_kept.Goals as goal

pub returns : goal.returns
unfolding las_record_kept
returns c = c.from.ensures ∙ ap kept_numbers c.record_kept.ensures
