-- What the loop of `box_index::Axis::of` keeps: the first j boxes are marked. Assumes nothing.
use Rattle.release.specs.BoxIndex.{AxisCovers}
use Rattle.release.proofs.box_index.Axis.of.Given as goal

abbrev pub invariant-loop-j : goal.invariant-loop-j
invariant-loop-j l = AxisCovers l.edges l.j l.axis
