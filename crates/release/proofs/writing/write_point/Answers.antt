-- `writing::write_point` meets its contract. Assumes nothing.
use mathlib.Core.Path.{◌≡◌, ap, ◌∙◌}
use lib.ListN.{length}
use lib.Seq.{sets}
use Rattle.publicpart.specs.Cutting.{named}
use Rattle.release.proofs.writing.write_point.Goals as goal

pub returns : goal.returns
returns c =
    let a = c.args in
    let named_is : c.part_at-point.result.now ≡ named a.file.now a.line = unfold named in c.part_at-point.ensures in
    (ap length named_is, c.copy.ensures ∙ ap (sets a.out.now a.to) named_is)
