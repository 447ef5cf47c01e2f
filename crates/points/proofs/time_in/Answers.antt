-- `points::time_in` meets its contract. Assumes nothing.
use native.Mathlib.Nat.{add-zero}
use Rattle.points.specs.Points.{number_in}
use Rattle.points.proofs.time_in.Goals as goal

pub returns-in-Some : goal.returns-in-Some
unfolding number_in
returns-in-Some c = rw (c.in-Some.is, add-zero c.in-Some.at) c.number_at.ensures.0
