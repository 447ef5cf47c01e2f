-- `header::file_layout_of` meets its contract. Assumes nothing.
use Rattle.reader.specs.Header.{file_layout_of}
use Rattle.reader.proofs.header.file_layout_of.Goals as goal

pub returns : goal.returns
unfolding file_layout_of
returns c =
    λ i. record {
      header_size = c.header_size.ensures.0 i;
      point_offset = c.point_offset.ensures.0 i;
      vlr_count = c.record_count.ensures.0 i;
      point_format = c.format.ensures.0 i;
      record_length = c.record_length.ensures.0 i;
      point_count = c.point_count.ensures.0 i;
    }
