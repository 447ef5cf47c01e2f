-- The invariant of the loop of `fill_kept`: where the filling stands (`FillingIn.antt`). Assumes nothing.
use Prim.Native.Nat.{◌+◌}
use Rattle.release.proofs.cutting.FillingIn.{Filled}
use Rattle.release.proofs.cutting.fill_kept.Given as goal

abbrev pub invariant-loop-t : goal.invariant-loop-t
invariant-loop-t l = Filled l.sheet l.keeper l.file l.n l.initial.list l.t l.list

abbrev pub decreases-loop-t : goal.decreases-loop-t
decreases-loop-t l = l.t.records + l.t.points
