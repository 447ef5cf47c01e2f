-- `vlrs::put_record_at` meets its contract. Assumes nothing.
use mathlib.Core.Path.{sym}
use native.Mathlib.Omega.{arith}
use Rattle.fields.specs.Bytes.{AllBytes}
use Rattle.fields.proofs.StoreLaws.{sets_out, lent_back}
use Rattle.lasfile.specs.Records.{record_of, record_bytes}
use Rattle.release.proofs.vlrs.RecordPartLaws.{length_low}
use Rattle.release.proofs.vlrs.put_record_at.Goals as goal

pub returns-then-out-to : goal.returns-then-out-to
returns-then-out-to c =
    let a = c.args in (
      c.written_length.ensures.0,
      c.written_length.ensures.1,
      sym (sets_out a.out.now a.to (record_bytes 2 (record_of 2 a.vlr.now)) (omega arith)),
    )

pub returns : goal.returns
returns c =
    let a = c.args in
    let v = a.vlr.now in
    let bytes : AllBytes v = λ i. omega (arith, c.type_inv.vlr i) in
    let put = c.put_record in (
      put.ensures.0,
      omega (arith, put.ensures.0, length_low v bytes),
      lent_back a.out.now put.new.out a.to (record_bytes 2 (record_of 2 v)) put.ensures.1,
    )
