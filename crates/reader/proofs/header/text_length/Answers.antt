-- `header::text_length` meets its contract. Assumes nothing.
use mathlib.Core.Path.{◌∙◌, ap}
use lib.ListN.{length}
use Rattle.fields.specs.Bytes.{Bytes}
use Rattle.fields.specs.Text.{cut}
use Rattle.reader.proofs.header.text_length.Goals as goal

pub returns : goal.returns
returns c = c.cut_length.ensures ∙ ap (λ (b : Bytes). length (cut b)) c.part_at.ensures
