-- What the loop of `kept_points::Keeper::choose_by_table` keeps is `Choosing`. Assumes nothing.
use Rattle.sheet.specs.Keeping.{in_table}
use Rattle.release.proofs.kept_points.ChooseLaws.{Choosing}
use Rattle.release.proofs.kept_points.Keeper.choose_by_table.Given as goal

abbrev pub invariant-loop-i : goal.invariant-loop-i
invariant-loop-i l = Choosing (in_table l.self.table l.block.format) l.block.record_length l.block.bytes.now l.chosen.places l.k l.i
