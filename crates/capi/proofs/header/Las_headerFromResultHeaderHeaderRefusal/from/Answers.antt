-- `header::las_header::from` meets its contract. Assumes nothing.
use mathlib.Core.Path.{◌∙◌, ap}
use Rattle.capi.specs.HeaderAnswers.{header_numbers, no_header}
use Rattle.capi.proofs.header.Las_headerFromResultHeaderHeaderRefusal.from.Goals as goal

pub returns-in-Ok : goal.returns-in-Ok
unfolding header_numbers
returns-in-Ok c = rw c.in-Ok.is c.found_header.ensures

pub returns-in-Err : goal.returns-in-Err
unfolding header_numbers
returns-in-Err c = rw c.in-Err.is (c.refused_header.ensures ∙ ap no_header c.number.ensures)
