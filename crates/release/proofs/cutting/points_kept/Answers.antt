-- `cutting::points_kept` meets its contract. Assumes nothing.
use mathlib.Core.Path.{ap, ◌∙◌}
use native.Mathlib.Omega.{arith}
use lib.ListN.{length}
use Rattle.fields.specs.Bytes.{AllBytes}
use Rattle.release.proofs.AssemblyLaws.{points_are}
use Rattle.release.proofs.cutting.points_kept.Goals as goal

pub returns : goal.returns
returns c passes =
    let a = c.args in
    let bytes : AllBytes a.file.now = λ i. omega (arith, c.type_inv.file i) in
    c.count_kept.ensures ∙ ap length (points_are a.sheet.now a.file.now bytes passes c.of.result c.of.ensures.table c.of.ensures.boxes)
