-- What the loop of `tally_run` keeps: what the points still to count make of the tally is what all make of it. Assumes
-- nothing.
use Rattle.std.proofs.Common.{◌≡◌, ◌+◌, ◌-◌, ◌*◌, ◌^◌, ◌≤◌, length}
use mathlib.Core.List.{foldl}
use Rattle.fields.specs.Bytes.{pieces}
use Rattle.tally.specs.Tally.{tallied, CountsUpTo}
use Rattle.tally.proofs.tally_run.Given as goal

abbrev pub invariant-loop-i : goal.invariant-loop-i
invariant-loop-i l =
    record {
      same : foldl (tallied l.format) l.tally (pieces (l.count - l._i) l.record_length l.rest)
          ≡ foldl (tallied l.format) l.initial.tally (pieces l.count l.record_length l.run);
      counts : CountsUpTo l.tally (2 ^ 32 + l._i);
      held : (l.count - l._i) * l.record_length ≤ length l.rest;
    }
