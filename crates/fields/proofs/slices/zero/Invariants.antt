-- What the loop of `slices::zero` keeps: what the zeros still to write make of dst is what all make of it, and dst is
-- as long as it was. Assumes nothing.
use mathlib.Core.Path.{◌≡◌}
use Prim.Native.Nat.{◌-◌}
use lib.ListN.{length}
use lib.Seq.{sets}
use Rattle.fields.specs.Bytes.{zeros}
use Rattle.fields.proofs.slices.zero.Given as goal

abbrev pub invariant-loop-i : goal.invariant-loop-i
invariant-loop-i l = (length l.dst ≡ length l.initial.dst) × (sets l.dst l.i (zeros (l.end - l.i)) ≡ sets l.initial.dst l.at (zeros (l.end - l.at)))
