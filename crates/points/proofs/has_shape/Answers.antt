-- `points::has_shape` meets its contract. Assumes nothing.
use mathlib.Core.Path.{ap}
use Rattle.points.specs.declared.layouts.Layout.{Layout}
use Rattle.points.specs.Formats.{layout_of}
use Rattle.points.proofs.AnswerLaws.{shape_test}
use Rattle.points.proofs.has_shape.Goals as goal

pub returns : goal.returns
unfolding layout_of
returns c =
    let a = c.args in
    rw c.from-len.ensures (shape_test a.format a.record_length a.n _ (ap (λ (l : Layout). l.size) c.layout_of-size.ensures))
