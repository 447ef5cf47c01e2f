-- `capi::las_class_kept` meets its contract. Assumes nothing.
use mathlib.Core.Path.{◌∙◌, ap}
use Rattle.capi.specs.Answers.{kept_numbers}
use Rattle.capi.specs.Interface.{las_class_kept}
use Rattle.capi.proofs.las_class_kept.Goals as goal

pub returns : goal.returns
unfolding las_class_kept
returns c = c.from.ensures ∙ ap kept_numbers c.class_kept.ensures
