-- `capi::las_class_test` meets its contract. Assumes nothing.
use mathlib.Core.Path.{◌∙◌, ap}
use Rattle.capi.specs.Answers.{tested_numbers}
use Rattle.capi.specs.Interface.{las_class_test}
use Rattle.capi.proofs.las_class_test.Goals as goal

pub returns : goal.returns
unfolding las_class_test
returns c = c.from.ensures ∙ ap tested_numbers c.class_test.ensures
