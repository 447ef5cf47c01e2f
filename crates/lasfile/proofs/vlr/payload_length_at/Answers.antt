-- `vlr::payload_length_at` meets its contract. Assumes nothing.
use mathlib.Core.Path.{◌≡◌, sym, ◌∙◌}
use Prim.Native.Nat.{◌+◌}
use native.Mathlib.Omega.{arith}
use Rattle.fields.specs.Bytes.{part, num}
use Rattle.fields.proofs.ByteLaws.{num_past}
use Rattle.lasfile.proofs.vlr.FieldLaws.{length_at}
use Rattle.lasfile.proofs.vlr.payload_length_at.Goals as goal

pub returns-then-file-at : goal.returns-then-file-at
returns-then-file-at c =
    let a = c.args in
    let s = a.file.now in
    (sym (num_past (a.at + 20) 2 s (omega arith)) ∙ sym (length_at 2 s a.at), omega arith)

pub returns : goal.returns
returns c =
    let a = c.args in
    let s = a.file.now in
    let read : c.number_at.result ≡ num (part (a.at + 20) 2 s) = c.number_at.ensures.0 in
    (read ∙ sym (length_at 2 s a.at), omega arith)
