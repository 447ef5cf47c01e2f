-- `capi::las_point_at` meets its contract. Assumes nothing.
use mathlib.Core.Path.{◌∙◌, ap}
use Rattle.capi.specs.PointAnswers.{point_numbers}
use Rattle.capi.specs.Interface.{las_point_at}
use Rattle.capi.proofs.las_point_at.Goals as goal

pub returns : goal.returns
unfolding las_point_at
returns c = c.from.ensures ∙ ap point_numbers c.point_at.ensures
