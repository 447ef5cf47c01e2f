-- `header::by_return_of` meets its contract. Assumes nothing.
use Rattle.reader.specs.Header.{by_return_of}
use Rattle.reader.proofs.header.by_return_of.Goals as goal

pub returns : goal.returns
unfolding by_return_of
returns c =
    λ i. record {
      first = c.number_at.ensures.0 i;
      second = c.number_at-2.ensures.0 i;
      third = c.number_at-3.ensures.0 i;
      fourth = c.number_at-4.ensures.0 i;
      fifth = c.number_at-5.ensures.0 i;
    }
