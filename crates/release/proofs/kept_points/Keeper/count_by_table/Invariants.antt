-- What the loop of `kept_points::Keeper::count_by_table` keeps: n is how many of the first i records are kept. Assumes
-- nothing.
use Rattle.std.proofs.Common.{◌≡◌, ◌≤◌, length}
use Rattle.fields.specs.Lists.{kept}
use Rattle.fields.specs.Bytes.{pieces}
use Rattle.sheet.specs.Keeping.{in_table}
use Rattle.release.proofs.kept_points.Keeper.count_by_table.Given as goal

abbrev pub invariant-loop-i : goal.invariant-loop-i
invariant-loop-i l =
    (l.n ≡ length (kept (in_table l.self.table l.points.format) (pieces l.i l.points.record_length l.points.bytes.now))) × (l.n ≤ l.i)
