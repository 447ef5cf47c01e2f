-- `copying::copy_two` meets its contract: the second block is pasted over the end of the first. Assumes nothing.
use mathlib.Core.Path.{◌≡◌, ap, ◌∙◌}
use Prim.Native.Nat.{ℕ, ◌+◌, ◌-◌}
use native.Mathlib.Omega.{arith}
use lib.Seq.{paste}
use Rattle.fields.proofs.copying.CopyLaws.{paste_over}
use Rattle.fields.proofs.copying.copy_two.Goals as goal

pub returns : goal.returns
returns c =
    let a = c.args in
    let n : a.n - 16 + 16 ≡ a.n = omega arith in
    c.copy_16-2.ensures
    ∙ rw c.copy_16.ensures (paste_over a.dst.now a.at a.src.now 16 (a.n - 16) 16 (omega arith) (omega arith) (omega arith) (omega arith))
    ∙ ap (λ (k : ℕ). paste a.dst.now a.at a.src.now k) n
