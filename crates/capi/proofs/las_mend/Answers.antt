-- `capi::las_mend` meets its contract. Assumes nothing.
use Rattle.capi.specs.Answers.{mended_numbers}
use Rattle.capi.specs.Interface.{las_mend}
use Rattle.capi.proofs.Lent.{in_numbers}
use Rattle.capi.proofs.las_mend.Goals as goal

pub returns : goal.returns
unfolding las_mend
returns c = in_numbers mended_numbers c.from.ensures c.mend.ensures
