-- `class_table::class_table` meets its contract. Assumes nothing.
use mathlib.Core.Path.{◌≡◌, refl, ◌∙◌}
use mathlib.Core.Bool.{false}
use Prim.Native.Nat.{ℕ}
use native.Mathlib.Omega.{arith}
use borrow.Author.Count.{below_more}
use lib.ListN.{get_or, set, length-set}
use lib.Seq.{get_or-set_same, get_or-set_other}
use Rattle.sheet.specs.Keeping.{keeps_byte}
use Rattle.sheet.proofs.class_table.class_table.Goals as goal

pub loop-byte-init : goal.loop-byte-init
loop-byte-init c = (omega arith, refl, λ k h. absurd (omega arith))

pub loop-byte-preserved : goal.loop-byte-preserved
loop-byte-preserved c =
    let a = c.args in
    let l = c.loop-byte in
    rw c.from.ensures (
      omega arith,
      simp length-set l.invariant.1,
      below_more (λ (k : ℕ). get_or (set l.table l.byte c.keeps_byte.result) k false ≡ keeps_byte a.sheet.now a.format k) l.byte
          (λ k less. get_or-set_other l.table l.byte k _ false (λ e. omega arith) ∙ l.invariant.2 k less)
          (get_or-set_same l.table l.byte _ false (omega arith) ∙ c.keeps_byte.ensures),
    )

pub returns : goal.returns
returns c = λ k h. c.loop-byte.invariant.2 k (omega arith)
