-- `capi::las_check_sheet` meets its contract. Assumes nothing.
use mathlib.Core.Path.{◌∙◌, ap}
use Rattle.fields.specs.Checks.{number_of}
use Rattle.capi.specs.Interface.{las_check_sheet}
use Rattle.capi.proofs.las_check_sheet.Goals as goal

pub returns : goal.returns
unfolding las_check_sheet
returns c = c.number_of.ensures ∙ ap number_of c.check_sheet.ensures
