-- `vlr::size_at` meets its contract. Assumes nothing.
use mathlib.Core.Path.{◌≡◌, sym, ap, ◌∙◌}
use Prim.Native.Nat.{ℕ, ◌+◌}
use native.Mathlib.Omega.{arith}
use lib.ListN.{drop}
use Rattle.fields.specs.Bytes.{Bytes}
use Rattle.lasfile.specs.Records.{payload_length}
use Rattle.lasfile.proofs.vlr.FieldLaws.{size_of_lem}
use Rattle.lasfile.proofs.vlr.size_at.Goals as goal

pub returns : goal.returns
returns c =
    let a = c.args in
    let s : Bytes = drop a.at a.file.now in
    let payload : c.payload_length_at.result ≡ payload_length 2 s = c.payload_length_at.ensures.0 in
    (ap (λ (n : ℕ). 54 + n) payload ∙ sym (size_of_lem 2 s), omega arith)
