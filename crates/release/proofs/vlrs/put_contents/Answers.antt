-- `vlrs::put_contents` meets its contract. Assumes nothing.
use mathlib.Core.Path.{◌≡◌, sym, ap, ◌∙◌}
use Prim.Native.Nat.{◌+◌}
use native.Mathlib.Omega.{arith}
use lib.ListN.{length}
use lib.Seq.{sets}
use Rattle.fields.specs.Bytes.{Bytes, AllBytes}
use Rattle.fields.specs.Text.{padded}
use Rattle.lasfile.specs.Records.{Record, record_of, written_length}
use Rattle.lasfile.proofs.vlr.FieldLaws.{description_of}
use Rattle.release.proofs.vlrs.RecordPartLaws.{sound, length_low, content_stored}
use Rattle.release.proofs.vlrs.put_contents.Goals as goal

pub overflow_add-end : goal.overflow_add-end
overflow_add-end c =
    let v = c.args.vlr.now in
    let bytes : AllBytes v = λ i. omega (arith, c.type_inv.vlr i) in
    let long = ap (λ (p : Bytes). 54 + length p) c.payload_of-payload.ensures in
    omega (arith, long, length_low v bytes)

pub returns : goal.returns
unfolding written_length
returns c =
    let a = c.args in
    let v = a.vlr.now in
    let bytes : AllBytes v = λ i. omega (arith, c.type_inv.vlr i) in
    let r : Record = record_of 2 v in
    let payload : c.payload_of-payload.result.now ≡ r.payload = c.payload_of-payload.ensures in
    let description : c.put_text.new.dst ≡ sets c.put_number.new.s 22 (padded 32 r.description) =
    c.put_text.ensures ∙ ap (λ (t : Bytes). sets c.put_number.new.s 22 (padded 32 t)) (sym (description_of 2 v)) in (
      ap (λ (p : Bytes). 54 + length p) payload,
      c.copy.ensures
          ∙ rw (description, c.put_number.ensures, payload) (content_stored a.out.now r (sound v bytes)),
    )
