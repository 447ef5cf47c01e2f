-- What the loop of `kept_points::Keeper::count_by_both` keeps: n and the kept records that are left are all. Assumes
-- nothing.
use Rattle.std.proofs.Common.{◌≡◌, ◌+◌, length}
use Rattle.sheet.specs.Boxes.{keeps_by}
use Rattle.release.specs.KeptPoints.{kept_of}
use Rattle.release.proofs.kept_points.Keeper.count_by_both.Given as goal

abbrev pub invariant-loop-block : goal.invariant-loop-block
invariant-loop-block l =
    (goal.iterator-loop-block).can_next l.block-iterator × (goal.iterator-loop-block).is_finite l.block-iterator
    × (l.block-iterator.rest.format ≡ l.points.format)
    × (l.n + length (kept_of (keeps_by l.self.table l.self.boxes l.points.format) l.block-iterator.rest)
    ≡ length (kept_of (keeps_by l.self.table l.self.boxes l.points.format) l.points))
