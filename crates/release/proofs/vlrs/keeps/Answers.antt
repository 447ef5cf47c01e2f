-- `vlrs::keeps` meets its contract. Assumes nothing.
use mathlib.Core.Path.{◌≡◌, ap, ◌∙◌}
use Rattle.fields.specs.Text.{cut}
use Rattle.lasfile.specs.Records.{record_of}
use Rattle.publicpart.specs.Public.{sheet_keeps}
use Rattle.lasfile.proofs.vlr.FieldLaws.{user_of, id_of}
use Rattle.release.proofs.vlrs.keeps.Goals as goal

pub returns : goal.returns
returns c =
    let a = c.args in
    let user = ap cut c.part_at.ensures in
    let id = c.number_at-id.ensures.0 in
    let held : c.holds_record.result ≡ sheet_keeps a.sheet.now (record_of 2 a.vlr.now) = c.holds_record.ensures ∙ rw (user, id, user_of 2 a.vlr.now, id_of 2 a.vlr.now) in
    held
