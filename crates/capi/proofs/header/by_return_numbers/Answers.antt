-- `header::by_return_numbers` meets its contract. Assumes nothing.
use mathlib.Core.Path.{refl}
use Rattle.capi.specs.HeaderAnswers.{by_return_numbers}
use Rattle.capi.proofs.header.by_return_numbers.Goals as goal

pub returns : goal.returns
unfolding by_return_numbers
returns c = refl
