-- `capi::las_release` meets its contract. Assumes nothing.
use Rattle.capi.specs.Answers.{released_numbers}
use Rattle.capi.specs.Interface.{las_release}
use Rattle.capi.proofs.Lent.{in_numbers}
use Rattle.capi.proofs.las_release.Goals as goal

pub returns : goal.returns
unfolding las_release
returns c = in_numbers released_numbers c.from.ensures c.release.ensures
