-- `header::offset_numbers` meets its contract. Assumes nothing.
use mathlib.Core.Path.{refl}
use Rattle.capi.specs.HeaderAnswers.{offset_numbers}
use Rattle.capi.proofs.header.offset_numbers.Goals as goal

pub returns : goal.returns
unfolding offset_numbers
returns c = rw (c.bits_of-3.ensures, c.bits_of-2.ensures, c.bits_of.ensures) refl
