-- `scaling::double_at` meets its contract. Assumes nothing.
use mathlib.Core.Path.{◌∙◌, ap}
use lib.Ieee.{binary64, of_bits}
use Rattle.scaling.specs.Scaling.{double_at}
use Rattle.scaling.proofs.double_at.Goals as goal

pub returns : goal.returns
unfolding double_at
returns c = c.double_of.ensures ∙ ap (of_bits binary64) c.number_at.ensures.0
