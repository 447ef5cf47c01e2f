-- `copying::copy_blocks` meets its contract. The last block is pasted over the end of what the loop gives. Assumes
-- nothing.
use mathlib.Core.Path.{◌≡◌, refl, ap, ◌∙◌}
use Prim.Native.Nat.{ℕ, ◌+◌, ◌-◌}
use native.Mathlib.Omega.{arith}
use lib.Seq.{paste, paste-zero}
use Rattle.fields.proofs.copying.CopyLaws.{paste_over}
use Rattle.fields.proofs.copying.copy_blocks.Goals as goal

pub loop-i-init : goal.loop-i-init
loop-i-init c =
    let a = c.args in
    (omega arith, refl, paste-zero a.dst.now a.at a.src.now)

pub loop-i-preserved : goal.loop-i-preserved
loop-i-preserved c =
    let a = c.args in
    let l = c.loop-i in
    let call = c.copy_16 in (
      omega arith,
      call.auto.dst ∙ l.invariant.1,
      call.ensures ∙ rw l.invariant.2 (paste_over a.dst.now a.at a.src.now l.i l.i 16 (omega arith) (omega arith) (omega arith) (omega arith)),
    )

pub returns : goal.returns
returns c =
    let a = c.args in
    let l = c.loop-i in
    let n : a.n - 16 + 16 ≡ a.n = omega arith in
    c.copy_16-2.ensures
    ∙ rw l.invariant.2 (paste_over a.dst.now a.at a.src.now l.i (a.n - 16) 16 (omega arith) (omega arith) (omega arith) (omega arith))
    ∙ ap (λ (k : ℕ). paste a.dst.now a.at a.src.now k) n
