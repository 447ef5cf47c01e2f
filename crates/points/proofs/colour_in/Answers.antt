-- `points::colour_in` meets its contract. Assumes nothing.
use native.Mathlib.Nat.{add-zero}
use Rattle.points.specs.Points.{number_in}
use Rattle.points.proofs.colour_in.Goals as goal

pub returns-in-Some : goal.returns-in-Some
unfolding number_in
returns-in-Some c =
    let is = c.in-Some.is in (
      rw (is, add-zero c.in-Some.at) c.u16_at.ensures,
      rw is c.u16_at-in-Some.ensures,
      rw is c.u16_at-in-Some-2.ensures,
    )
