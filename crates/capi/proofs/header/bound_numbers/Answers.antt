-- `header::bound_numbers` meets its contract. Assumes nothing.
use mathlib.Core.Path.{refl}
use Rattle.publicpart.specs.Bounds.{bound_numbers}
use Rattle.capi.proofs.header.bound_numbers.Goals as goal

pub returns : goal.returns
unfolding bound_numbers
returns c = refl
