-- `header::creation_of` meets its contract. Assumes nothing.
use Rattle.reader.specs.Header.{creation_of}
use Rattle.reader.proofs.header.creation_of.Goals as goal

pub returns : goal.returns
unfolding creation_of
returns c =
    λ i. record {
      system_length = c.text_length.ensures i;
      software_length = c.text_length-2.ensures i;
      day = c.number_at.ensures.0 i;
      year = c.number_at-2.ensures.0 i;
    }
