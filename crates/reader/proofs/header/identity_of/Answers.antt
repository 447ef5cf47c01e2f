-- `header::identity_of` meets its contract. Assumes nothing.
use Rattle.reader.specs.Header.{identity_of}
use Rattle.reader.proofs.header.identity_of.Goals as goal

pub returns : goal.returns
unfolding identity_of
returns c =
    λ i. record {
      file_source_id = c.number_at.ensures.0 i;
      global_encoding = c.number_at-2.ensures.0 i;
      guid_1 = c.number_at-3.ensures.0 i;
      guid_2 = c.number_at-4.ensures.0 i;
      guid_3 = c.number_at-5.ensures.0 i;
      guid_4 = c.number_at-6.ensures.0 i;
      version_major = c.number_at-7.ensures.0 i;
      version_minor = c.number_at-8.ensures.0 i;
    }
