-- `assembly::totals_of` meets its contract. Assumes nothing.
use mathlib.Core.Path.{ap, ◌∙◌}
use Rattle.scaling.specs.declared.Bounds.{Bounds}
use Rattle.tally.specs.Tally.{tally_bounds}
use Rattle.release.specs.Assembly.{totals_of}
use Rattle.release.proofs.assembly.totals_of.Goals as goal

pub returns : goal.returns
unfolding totals_of
returns c =
    let a = c.args in
    ap (λ (b : Bounds). record { offset = a.start; records = a.records; points = a.tally.count; bins = a.tally.bins; bounds = b })
    (c.tally_bounds-bounds.ensures ∙ ap (tally_bounds a.tally) c.read.ensures)
