-- `point::las_point::from` meets its contract, of a point that was decoded. Assumes nothing.
use mathlib.Core.Path.{◌∙◌, ap}
use Rattle.capi.specs.PointAnswers.{decoded_numbers, no_point}
use Rattle.capi.proofs.point.Las_pointFromResultPointRefusal.from.Goals as goal

pub returns-in-Ok : goal.returns-in-Ok
unfolding decoded_numbers
returns-in-Ok c = rw c.in-Ok.is c.found_point.ensures

pub returns-in-Err : goal.returns-in-Err
unfolding decoded_numbers
returns-in-Err c = rw c.in-Err.is (c.refused_point.ensures ∙ ap no_point c.number.ensures)
