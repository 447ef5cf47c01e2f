-- `capi::las_level` meets its contract. Assumes nothing.
use mathlib.Core.Path.{refl}
use Rattle.capi.specs.Interface.{las_level}
use Rattle.capi.proofs.las_level.Goals as goal

pub returns : goal.returns
unfolding las_level
returns c = refl
