-- `encoding::put_at` meets its contract. Assumes nothing.
use mathlib.Core.Path.{◌≡◌}
use Rattle.std.specs.Prelude.{Some}
use Rattle.points.specs.Encoding.{stored_at}
use Rattle.points.proofs.encoding.put_at.Goals as goal

pub returns-then-fits_in : goal.returns-then-fits_in
unfolding stored_at
returns-then-fits_in c =
    let is : c.args.place ≡ Some c.in-Some.at = c.in-Some.is in
    rw is c.put_number.ensures
