-- What the loop of `kept_points::Keeper::leave_in_boxes` keeps is `Staying`. Assumes nothing.
use Rattle.sheet.specs.Boxes.{in_boxes}
use Rattle.release.proofs.kept_points.StayLaws.{Staying}
use Rattle.release.proofs.kept_points.Keeper.leave_in_boxes.Given as goal

abbrev pub invariant-loop-j : goal.invariant-loop-j
invariant-loop-j l =
    Staying (in_boxes l.self.boxes) l.block.record_length l.block.bytes.now l.initial.chosen.places l.chosen.places l.m l.j
