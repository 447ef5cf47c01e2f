-- `header::stated_bounds` meets its contract. Assumes nothing.
use Rattle.reader.specs.Header.{stated_bounds}
use Rattle.reader.proofs.header.stated_bounds.Goals as goal

pub returns : goal.returns
unfolding stated_bounds
returns c =
    λ i. record {
      max_x = c.number_at.ensures.0 i;
      min_x = c.number_at-2.ensures.0 i;
      max_y = c.number_at-3.ensures.0 i;
      min_y = c.number_at-4.ensures.0 i;
      max_z = c.number_at-5.ensures.0 i;
      min_z = c.number_at-6.ensures.0 i;
    }
