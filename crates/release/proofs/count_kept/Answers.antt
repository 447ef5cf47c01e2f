-- `count_kept` meets its contract. Assumes nothing.
use Rattle.std.proofs.Common.{ap, ◌∙◌, length}
use Rattle.release.proofs.assembly.PointLaws.{kept_of_file}
use Rattle.release.proofs.count_kept.Goals as goal

pub returns : goal.returns
returns c =
    let a = c.args in
    c.count.ensures ∙ ap length (kept_of_file a.keeper.now a.file.now c.of.result c.of.ensures.records c.of.ensures.format)
