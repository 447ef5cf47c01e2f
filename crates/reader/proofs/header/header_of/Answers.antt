-- `header::header_of` meets its contract. Assumes nothing.
use Rattle.reader.specs.Header.{header_of}
use Rattle.reader.proofs.header.header_of.Goals as goal

pub returns : goal.returns
unfolding header_of
returns c =
    λ i. record {
      identity = c.identity_of.ensures i;
      creation = c.creation_of.ensures i;
      layout = c.file_layout_of.ensures i;
      by_return = c.by_return_of.ensures i;
      scaling = c.read.ensures i;
      bounds = c.stated_bounds.ensures i;
    }
