-- `vlrs::put_record` meets its contract. Assumes nothing.
use mathlib.Core.Path.{ap, ◌∙◌}
use native.Mathlib.Omega.{arith}
use lib.Seq.{sets}
use Rattle.fields.specs.Bytes.{Bytes, AllBytes}
use Rattle.lasfile.specs.Records.{Record, record_of}
use Rattle.release.specs.KeptRecords.{content_bytes}
use Rattle.release.proofs.vlrs.RecordPartLaws.{sound, record_stored}
use Rattle.release.proofs.vlrs.put_record.Goals as goal

pub returns : goal.returns
returns c =
    let a = c.args in
    let v = a.vlr.now in
    let bytes : AllBytes v = λ i. omega (arith, c.type_inv.vlr i) in
    let r : Record = record_of 2 v in (
      c.put_contents.ensures.0,
      c.put_contents.ensures.1
          ∙ ap (λ (o : Bytes). sets o 20 (content_bytes r)) c.put_name.ensures
          ∙ record_stored a.out.now r (sound v bytes),
    )
