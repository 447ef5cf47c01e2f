-- `mend::field_differs` meets its contract: the number is that of the whole field. Assumes nothing.
use mathlib.Core.Path.{◌≡◌, ap, ◌∙◌}
use Prim.Native.Nat.{ℕ, min}
use native.Mathlib.Omega.{arith}
use mathlib.Core.Bool.{not}
use lib.Dec.{eqb}
use Rattle.fields.specs.Bytes.{AllBytes, part, num}
use Rattle.editor.proofs.MendLaws.{number_differs}
use Rattle.editor.proofs.mend.field_differs.Goals as goal

pub returns : goal.returns
returns c =
    let a = c.args in
    let asked = c.requires in
    let bytes : AllBytes a.file.now = λ i. omega (arith, c.type_inv.file i) in
    let whole : min a.width 8 ≡ a.width = omega (arith, asked.0) in
    let read : c.number_at.result ≡ num (part a.at a.width a.file.now) =
    c.number_at.ensures.0 ∙ ap (λ (w : ℕ). num (part a.at w a.file.now)) whole in
    ap (λ (n : ℕ). not (eqb n a.n)) read ∙ number_differs a.file.now bytes a.at a.width a.n asked.1 asked.2
