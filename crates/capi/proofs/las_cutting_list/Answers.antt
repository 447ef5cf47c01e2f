-- `capi::las_cutting_list` meets its contract. Assumes nothing.
use Rattle.capi.specs.Answers.{listed_numbers}
use Rattle.capi.specs.Interface.{las_cutting_list}
use Rattle.capi.proofs.Lent.{in_numbers}
use Rattle.capi.proofs.las_cutting_list.Goals as goal

pub returns : goal.returns
unfolding las_cutting_list
returns c = in_numbers listed_numbers c.from.ensures c.cutting_list.ensures
