-- `capi::las_release_by_list` meets its contract. Assumes nothing.
use mathlib.Core.Path.{◌∙◌}
use Rattle.capi.specs.Answers.{released_numbers}
use Rattle.capi.specs.Interface.{las_release_by_list}
use Rattle.capi.proofs.las_release_by_list.Goals as goal

pub returns : goal.returns
unfolding las_release_by_list
returns c =
    let e = c.from.ensures in
    let r = c.release_by_list.ensures in
    (λ i. ((e i, c.release_by_list.new.out), c.release_by_list.new.list)) ∙ (λ i. ((released_numbers ((r i).0.0), (r i).0.1), (r i).1))
