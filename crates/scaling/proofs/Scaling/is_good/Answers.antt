-- `scaling::Scaling::is_good` meets its contract. Assumes nothing.
use mathlib.Core.Bool.{◌&&◌}
use Rattle.scaling.specs.Scaling.{good_scaling}
use Rattle.scaling.proofs.Scaling.is_good.Goals as goal

pub returns : goal.returns
unfolding good_scaling
returns c =
    λ i. c.good_scale.ensures i
    && c.good_scale-2.ensures i
    && c.good_scale-3.ensures i
    && c.good_offset.ensures i
    && c.good_offset-2.ensures i
    && c.good_offset-3.ensures i
