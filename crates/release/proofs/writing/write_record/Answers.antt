-- `writing::write_record` meets its contract. Assumes nothing.
use mathlib.Core.Path.{◌≡◌, sym, ap, ◌∙◌}
use Prim.Native.Nat.{ℕ, ◌+◌, ◌-◌}
use native.Mathlib.Omega.{arith}
use lib.ListN.{length}
use lib.Seq.{sets}
use Rattle.fields.specs.Bytes.{Bytes, AllBytes, part}
use Rattle.fields.proofs.ByteLaws.{part_bytes}
use Rattle.lasfile.specs.Records.{Record, front_size, record_of, record_bytes, written_length}
use Rattle.lasfile.proofs.vlr.RecordLaws.{length-record_bytes}
use Rattle.release.proofs.vlrs.RecordPartLaws.{sound}
use Rattle.release.proofs.writing.ItemLaws.{record_from_lem, part_least}
use Rattle.release.proofs.writing.write_record.Goals as goal

pub returns : goal.returns
returns c =
    let a = c.args in
    let s : Bytes = a.file.now in
    let at : ℕ = a.line.place - front_size 2 in
    let bytes : AllBytes s = λ i. omega (arith, c.type_inv.file i) in
    let v : Bytes = part at (front_size 2 + a.line.length) s in
    let r : Record = record_of 2 v in
    let short = c.least-payload in
    let lent : c.part_at-vlr.result.now ≡ v =
    c.part_at-vlr.ensures
    ∙ ap (λ (n : ℕ). part n (front_size 2 + short.result) s) c.record_place-record.ensures
    ∙ part_least at (front_size 2) a.line.length short.result s short.ensures in
    let long : written_length 2 r ≡ length (record_bytes 2 r) = sym (length-record_bytes 2 r (sound v (part_bytes at (front_size 2 + a.line.length) s bytes))) in (
      c.put_record_at.ensures.0 ∙ ap (λ (w : Bytes). written_length 2 (record_of 2 w)) lent ∙ long ∙ ap length (sym (record_from_lem s a.line)),
      c.put_record_at.ensures.2 ∙ ap (λ (w : Bytes). sets a.out.now a.to (record_bytes 2 (record_of 2 w))) lent ∙ ap (sets a.out.now a.to) (sym (record_from_lem s a.line)),
    )
