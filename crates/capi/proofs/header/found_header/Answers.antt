-- `header::found_header` meets its contract. Assumes nothing.
use mathlib.Core.Path.{refl}
use Rattle.capi.specs.HeaderAnswers.{found_header}
use Rattle.capi.proofs.header.found_header.Goals as goal

pub returns : goal.returns
unfolding found_header
returns c = rw (c.bound_numbers-bounds.ensures, c.offset_numbers-offset.ensures, c.scale_numbers-scale.ensures, c.by_return_numbers-by_return.ensures) refl
