-- `box_index::Axis::mark` meets its contract. Assumes nothing.
use Rattle.std.proofs.Common.{◌≡◌, ap, ◌∙◌}
use mir.Syntax.{w32}
use mir.ValLaws.{to_z-of_z}
use Rattle.release.specs.BoxIndex.{cell_on}
use Rattle.release.proofs.box_index.Axis.mark.Goals as goal

pub returns : goal.returns
returns c =
    let a = c.args in
    let cell = cell_on a.self.now in
    let first : c.cell_of-first.result ≡ cell a.low = c.cell_of-first.ensures.0 ∙ ap cell (to_z-of_z w32 a.low c.ranges.low) in
    let last : c.cell_of-last.result ≡ cell a.high = c.cell_of-last.ensures.0 ∙ ap cell (to_z-of_z w32 a.high c.ranges.high) in
    rw (first, last) at c.mark_cells.ensures
