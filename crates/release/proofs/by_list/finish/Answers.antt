-- `by_list::finish` meets its contract. Assumes nothing.
use mathlib.Core.Path.{◌≡◌}
use Prim.Native.Nat.{◌*◌}
use native.Mathlib.Omega.{arith}
use Rattle.lasfile.specs.HeaderFields.{record_length}
use Rattle.release.proofs.by_list.FinishLaws.{finished_is}
use Rattle.release.proofs.by_list.finish.Goals.{After-record_length-record_length}
use Rattle.release.proofs.by_list.finish.Goals as goal

points_long : (c : After-record_length-record_length) → let a = c.args in a.released.points * c.record_length-record_length.result ≡ a.released.points * record_length a.file.now
points_long c = rw c.record_length-record_length.ensures.0

pub overflow_mul-start : goal.overflow_mul-start
overflow_mul-start c = omega (arith, points_long (goal.at.overflow_mul-start c).After-record_length-record_length, c.requires.ends)

pub overflow_sub-start : goal.overflow_sub-start
overflow_sub-start c = omega (arith, points_long (goal.at.overflow_sub-start c).After-record_length-record_length, c.requires.ends)

pub returns : goal.returns
returns c =
    let a = c.args in
    finished_is a.file.now a.out.now _ _ a.released.length a.released.points a.released.records c.format-format.result c.record_length-record_length.result c.fresh.result c.tally_more-tally.result c.totals_of-totals.result
    c.format-format.ensures.0 c.record_length-record_length.ensures.0 c.fresh.ensures c.zero.ensures c.tally_more-tally.ensures c.totals_of-totals.ensures c.put_head.ensures
