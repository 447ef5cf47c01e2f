-- `encoding::is_large` meets its contract. Assumes nothing.
use mathlib.Core.Path.{refl}
use Rattle.fields.specs.Checks.{fails}
use Rattle.points.specs.Encoding.{large}
use Rattle.points.proofs.encoding.is_large.Goals as goal

pub returns : goal.returns
unfolding fails large
returns c = refl
