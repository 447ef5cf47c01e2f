-- `vlrs::put_name` meets its contract. Assumes nothing.
use mathlib.Core.Path.{◌≡◌, sym, ap, ◌∙◌}
use native.Mathlib.Omega.{arith}
use lib.Seq.{sets}
use Rattle.fields.specs.Bytes.{Bytes, AllBytes, bytes_of}
use Rattle.fields.specs.Text.{padded}
use Rattle.lasfile.specs.Records.{Record, record_of}
use Rattle.lasfile.proofs.vlr.FieldLaws.{user_of, id_of}
use Rattle.release.proofs.vlrs.RecordPartLaws.{sound, name_stored}
use Rattle.release.proofs.vlrs.put_name.Goals as goal

pub returns : goal.returns
returns c =
    let a = c.args in
    let v = a.vlr.now in
    let bytes : AllBytes v = λ i. omega (arith, c.type_inv.vlr i) in
    let r : Record = record_of 2 v in
    let id : bytes_of 2 c.number_at.result ≡ bytes_of 2 r.id = ap (bytes_of 2) (c.number_at.ensures.0 ∙ sym (id_of 2 v)) in
    let user : c.put_text.new.dst ≡ sets c.put_number.new.s 2 (padded 16 r.user) =
    c.put_text.ensures ∙ ap (λ (t : Bytes). sets c.put_number.new.s 2 (padded 16 t)) (sym (user_of 2 v)) in
    c.put_number-2.ensures
    ∙ rw (user, c.put_number.ensures, id) (name_stored a.out.now r (sound v bytes))
