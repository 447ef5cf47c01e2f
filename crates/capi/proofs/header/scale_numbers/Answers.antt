-- `header::scale_numbers` meets its contract. Assumes nothing.
use mathlib.Core.Path.{refl}
use Rattle.capi.specs.HeaderAnswers.{scale_numbers}
use Rattle.capi.proofs.header.scale_numbers.Goals as goal

pub returns : goal.returns
unfolding scale_numbers
returns c = rw (c.bits_of-3.ensures, c.bits_of-2.ensures, c.bits_of.ensures) refl
