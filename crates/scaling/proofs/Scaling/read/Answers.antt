-- `scaling::Scaling::read` meets its contract. Assumes nothing.
use Rattle.scaling.proofs.ScalingLaws.{scaling_at}
use Rattle.scaling.proofs.Scaling.read.Goals as goal

pub returns : goal.returns
returns c =
    rw scaling_at
    (λ i. record {
      x_scale = c.double_at.ensures i;
      y_scale = c.double_at-2.ensures i;
      z_scale = c.double_at-3.ensures i;
      x_offset = c.double_at-4.ensures i;
      y_offset = c.double_at-5.ensures i;
      z_offset = c.double_at-6.ensures i;
    })
