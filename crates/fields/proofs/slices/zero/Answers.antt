-- `slices::zero` meets its contract. Assumes nothing.
use mathlib.Core.Path.{◌≡◌, refl, ◌∙◌}
use Prim.Native.Nat.{ℕ, suc, ◌+◌, ◌-◌, ◌≤◌, ◌<◌}
use native.Mathlib.Omega.{arith}
use lib.ListN.{set, length-set}
use lib.Seq.{sets}
use Rattle.fields.specs.Bytes.{Bytes, zeros}
use Rattle.fields.proofs.StoreLaws.{sets_zeros}
use Rattle.fields.proofs.slices.zero.Goals as goal

-- one zero more is written
turn : (d next whole : Bytes) (i end : ℕ) → i < end → next ≡ set d i 0 → sets d i (zeros (end - i)) ≡ whole → sets next (i + 1) (zeros (end - (i + 1))) ≡ whole
turn d next whole i end h e inv =
    let n : end - i ≡ suc (end - (i + 1)) = omega arith in
    let f : i + 1 ≡ suc i = omega arith in
    rw (e, f) (rw (n, f) at inv)

ended : (d : Bytes) (i end : ℕ) → end ≤ i → d ≡ sets d i (zeros (end - i))
ended d i end h = let n : end - i ≡ 0 = omega arith in rw n

pub loop-i-init : goal.loop-i-init
loop-i-init c = (refl, refl)

pub loop-i-preserved : goal.loop-i-preserved
loop-i-preserved c =
    let l = c.loop-i in
    (simp length-set l.invariant.0, turn l.dst _ _ l.i _ (omega arith) refl l.invariant.1)

pub returns : goal.returns
returns c =
    let a = c.args in
    let l = c.loop-i in
    let m = c.least.result in
    let e : a.at + m - a.at ≡ m = omega arith in
    ended l.dst l.i (a.at + m) (omega arith) ∙ l.invariant.1 ∙ rw e (sets_zeros a.dst.now a.at a.n m (omega arith) c.least.ensures)
