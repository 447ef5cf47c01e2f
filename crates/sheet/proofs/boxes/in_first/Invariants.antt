-- What the loop of `boxes::in_first` keeps: whether one of the first j boxes contains the point. Assumes nothing.
use Rattle.std.proofs.Common.{◌≡◌}
use Rattle.sheet.specs.Boxes.{along, in_first}
use Rattle.sheet.proofs.boxes.in_first.Given as goal

abbrev pub invariant-loop-j : goal.invariant-loop-j
invariant-loop-j l = l.found ≡ in_first l.boxes l.j (along l.p)
