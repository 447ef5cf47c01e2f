-- A run of points in two: its first records, and those behind them.
-- Assumes nothing.
use mathlib.Core.Path.{◌≡◌, sym, ap, ◌∙◌}
use Prim.Native.Nat.{ℕ, ◌+◌, ◌-◌, ◌*◌, ◌≤◌, ◌<◌}
use native.Mathlib.Omega.{arith}
use mathlib.Core.List.{List, ◌++◌}
use lib.ListN.{take, drop}
use Rattle.fields.specs.Bytes.{Bytes, part, pieces}
use Rattle.fields.proofs.ByteLaws.{pieces-part, pieces_split}
use Rattle.release.specs.declared.run.Points.{Points}
use Rattle.release.specs.Blocks.{TakesBlock}

in_two : (count n w : ℕ) (s : Bytes) → n ≤ count
    → pieces count w s ≡ pieces n w (take (n * w) s) ++ pieces (count - n) w (drop (n * w) s)
unfolding part
in_two count n w s h =
    let e : count ≡ n + (count - n) = omega arith in
    ap (λ (c : ℕ). pieces c w s) e ∙ pieces_split n (count - n) w s
    ∙ ap (λ (ps : List Bytes). ps ++ pieces (count - n) w (drop (n * w) s)) (sym (pieces-part n w 0 s))

pub takes_block : (p block rest : Points) (n : ℕ) → 0 < n → n ≤ 64 → n ≤ p.count
    → (block.format ≡ p.format)
    × (block.record_length ≡ p.record_length)
    × (block.count ≡ n)
    × (block.bytes.now ≡ take (n * p.record_length) p.bytes.now)
    × (rest.format ≡ p.format)
    × (rest.record_length ≡ p.record_length)
    × (rest.count ≡ p.count - n)
    × (rest.bytes.now ≡ drop (n * p.record_length) p.bytes.now)
    → TakesBlock p block rest
takes_block p block rest n some few within e =
    record {
      some = omega (arith, e.2);
      few = omega (arith, e.2);
      count = omega (arith, e.2, e.6);
      records = rw (e.1, e.2, e.3, e.5, e.6, e.7) (in_two p.count n p.record_length p.bytes.now within);
      format = e.0;
      size = e.1;
      rest_format = e.4;
      rest_size = e.5;
    }
