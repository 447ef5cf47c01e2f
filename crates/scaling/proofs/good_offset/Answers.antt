-- `scaling::good_offset` meets its contract. MIR has each end of the range by its bits, which are read here. Assumes
-- nothing.
use mathlib.Core.Path.{refl}
use lib.Ieee.{of_bits, neg}
use Rattle.scaling.specs.Scaling.{within, good_offset}
use Rattle.scaling.proofs.good_offset.Goals as goal

pub returns : goal.returns
unfolding good_offset within of_bits neg
returns c = refl
