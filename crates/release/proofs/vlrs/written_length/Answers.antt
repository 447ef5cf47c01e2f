-- `vlrs::written_length` meets its contract. Assumes nothing.
use mathlib.Core.Path.{◌≡◌, ap}
use Prim.Native.Nat.{◌+◌}
use native.Mathlib.Omega.{arith}
use lib.ListN.{length}
use Rattle.fields.specs.Bytes.{Bytes, AllBytes}
use Rattle.lasfile.specs.Records.{record_of, written_length}
use Rattle.release.proofs.vlrs.RecordPartLaws.{length_low}
use Rattle.release.proofs.vlrs.written_length.Goals as goal

pub returns : goal.returns
unfolding written_length
returns c =
    let v = c.args.vlr.now in
    let bytes : AllBytes v = λ i. omega (arith, c.type_inv.vlr i) in
    let long : 54 + length c.payload_of-payload.result.now ≡ written_length 2 (record_of 2 v) = ap (λ (p : Bytes). 54 + length p) c.payload_of-payload.ensures in
    (long, omega (arith, long, length_low v bytes))
