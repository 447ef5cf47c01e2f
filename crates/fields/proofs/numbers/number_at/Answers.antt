-- `numbers::number_at` meets its contract. Assumes nothing.
use mathlib.Core.Path.{◌≡◌, ◌∙◌, ap}
use Prim.Native.Nat.{ℕ, min}
use native.Mathlib.Omega.{arith}
use Rattle.fields.specs.Bytes.{num, part}
use Rattle.fields.proofs.ByteLaws.{num-part-lt}
use Rattle.fields.proofs.numbers.number_at.Goals as goal

pub returns-else-fits_in : goal.returns-else-fits_in
returns-else-fits_in c =
    let s = c.args.s.now in
    let is : c.number_by_bytes.result ≡ num (part c.args.at (min c.args.width 8) s) =
    c.number_by_bytes.ensures ∙ ap num (c.part_at.ensures ∙ ap (λ (w : ℕ). part c.args.at w s) c.least-w.ensures) in
    (is, rw is (num-part-lt c.args.at (min c.args.width 8) s (λ (i : ℕ). omega (arith, c.type_inv.s i))))
