-- What the loop of `box_index::Axis::mark_cells` keeps: no bit is lost, and the cells so far have bit j. Assumes
-- nothing.
use Rattle.std.proofs.Common.{ℕ, ◌≡◌, ◌≤◌, ◌<◌, length, get_or}
use Rattle.release.specs.BoxIndex.{HasBit, Grown}
use Rattle.release.proofs.box_index.Axis.mark_cells.Given as goal

abbrev pub invariant-loop-k : goal.invariant-loop-k
invariant-loop-k l =
    (Grown l.initial.self l.self × ((m : ℕ) → l.first ≤ m → m < l.k → HasBit l.j (get_or l.self.cells m 0))) × (length l.self.cells ≡ 64)
