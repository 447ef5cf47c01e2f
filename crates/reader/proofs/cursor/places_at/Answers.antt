-- `cursor::places_at` meets its contract. Assumes nothing.
use mathlib.Core.Path.{◌≡◌, ap, ◌∙◌}
use Prim.Native.Nat.{◌+◌}
use lib.ListN.{length}
use Rattle.fields.specs.Bytes.{Bytes, part}
use Rattle.fields.specs.Text.{cut}
use Rattle.reader.specs.Steps.{record_places}
use Rattle.reader.proofs.cursor.places_at.Goals as goal

pub returns : goal.returns
unfolding record_places
returns c =
    let a = c.args in
    let user : c.cut_length.result ≡ length (cut (part (a.at + 2) 16 a.file.now)) =
    c.cut_length.ensures ∙ ap (λ (t : Bytes). length (cut t)) c.part_at.ensures in
    let description : c.cut_length-2.result ≡ length (cut (part (a.at + 22) 32 a.file.now)) =
    c.cut_length-2.ensures ∙ ap (λ (t : Bytes). length (cut t)) c.part_at-2.ensures in
    λ i. record {
      user_place = a.at + 2;
      user_length = user i;
      record_id = c.number_at.ensures.0 i;
      description_place = a.at + 22;
      description_length = description i;
      payload_place = a.at + 54;
      payload_length = c.payload_length_at.ensures.0 i;
    }
