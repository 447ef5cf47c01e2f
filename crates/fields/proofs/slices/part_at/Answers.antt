-- `slices::part_at` meets its contract. Assumes nothing.
use mathlib.Core.Path.{◌≡◌, sym, ap, ◌∙◌}
use Prim.Native.Nat.{ℕ, ◌+◌, ◌-◌, ◌≤◌}
use native.Mathlib.Omega.{arith}
use lib.ListN.{length, take, drop, length-drop}
use lib.Seq.{take_all}
use Rattle.fields.specs.Bytes.{Bytes, part}
use Rattle.fields.proofs.ByteLaws.{part_past}
use Rattle.fields.proofs.slices.part_at.Goals as goal

-- two counts that both reach the end
take_both : (m n : ℕ) (l : Bytes) → length l ≤ m → length l ≤ n → take m l ≡ take n l
take_both m n l h k = take_all m l h ∙ sym (take_all n l k)

pub returns-then-s-at : goal.returns-then-s-at
returns-then-s-at c = let a = c.args in sym (part_past a.at a.n a.s.now (omega arith))

pub returns-then-n-s : goal.returns-then-n-s
unfolding part
returns-then-n-s c =
    let a = c.args in
    let e : a.at + a.n - a.at ≡ a.n = omega arith in
    ap (λ (k : ℕ). take k (drop a.at a.s.now)) e

pub returns-else-n-s : goal.returns-else-n-s
unfolding part
returns-else-n-s c =
    let a = c.args in
    take_both (length a.s.now - a.at) a.n (drop a.at a.s.now) (simp length-drop (omega arith)) (simp length-drop (omega arith))
