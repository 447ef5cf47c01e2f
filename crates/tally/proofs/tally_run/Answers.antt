-- `tally_run` meets its contract. Assumes nothing.
use Rattle.std.proofs.Common.{◌≡◌, ◌∙◌, ◌+◌, ◌-◌, ◌^◌, ℕ, length, take, ap, arith}
use Rattle.std.proofs.lemmas.Grind.{common_steps}
use mathlib.Core.List.{foldl}
use Rattle.fields.specs.Bytes.{pieces}
use Rattle.tally.specs.Tally.{tallied}
use Rattle.tally.proofs.CountLaws.{counts_up}
use Rattle.tally.proofs.RunLaws.{turned, counts_turned, rest_within}
use Rattle.tally.proofs.tally_run.Goals as goal

pub add_point-tally-requires : goal.add_point-tally-requires
add_point-tally-requires c =
    let l = c.loop-i in
    (counts_up l.tally (2 ^ 32 + l._i) (2 ^ 33) l.invariant.counts (omega (arith, c.requires.0)), c.one_among_zeros-ones.ensures)

pub loop-i-preserved : goal.loop-i-preserved
loop-i-preserved c =
    let a = c.args in
    let l = c.loop-i in
    let one : c.add_point-tally.result ≡ tallied a.format l.tally (take a.record_length l.rest.now) =
    c.add_point-tally.ensures ∙ ap (tallied a.format l.tally) c.split_at.ensures.front in
    record {
      same = turned a.format a.count l._i a.record_length _ _ _ _ _ (omega arith) one c.split_at.ensures.back l.invariant.same;
      counts = counts_turned a.format l._i _ _ _ one l.invariant.counts;
      held = grind (arith, common_steps, rest_within a.count l._i a.record_length (length l.rest.now) (omega arith) l.invariant.held);
    }

pub loop-i-init : goal.loop-i-init
loop-i-init c =
    let a = c.args in
    let all : a.count - 0 ≡ a.count = omega arith in
    record {
      same = ap (λ (n : ℕ). foldl (tallied a.format) a.t (pieces n a.record_length a.run.now)) all;
      counts = c.requires.2;
      held = rw all c.requires.1;
    }
