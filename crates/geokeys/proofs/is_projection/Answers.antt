-- `geokeys::is_projection` meets its contract. Assumes nothing.
use mathlib.Core.Path.{◌≡◌, sym, ap, ◌∙◌}
use Rattle.fields.specs.Bytes.{same}
use Rattle.fields.specs.Text.{cut}
use Rattle.fields.proofs.TextLaws.{cut_whole}
use Rattle.lasfile.specs.Records.{record_at}
use Rattle.lasfile.proofs.vlr.FieldLaws.{user_at, id_at}
use Rattle.geokeys.specs.GeoKeys.{projection, is_projection}
use Rattle.geokeys.proofs.is_projection.Goals as goal

pub returns : goal.returns
unfolding is_projection
returns c =
    let a = c.args in
    let s = a.vlr.now in
    let user : cut c.part_at.result.now ≡ (record_at 2 s 0).user =
    ap cut c.part_at.ensures ∙ sym (user_at 2 s 0) in
    let named : c.same_cut-named.result ≡ same (record_at 2 s 0).user projection = c.same_cut-named.ensures ∙ rw (user, cut_whole projection tt) in
    let id : c.number_at.result ≡ (record_at 2 s 0).id = c.number_at.ensures.0 ∙ sym (id_at 2 s 0) in
    rw (named, id)
