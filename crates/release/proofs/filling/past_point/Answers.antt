-- `filling::past_point` meets its contract. Assumes nothing.
use mathlib.Core.Path.{ap, ◌∙◌}
use native.Mathlib.Omega.{arith}
use mathlib.Core.Bool.{Bool, cond}
use Rattle.fields.specs.Bytes.{part}
use Rattle.sheet.specs.Boxes.{keeps_by}
use Rattle.release.proofs.kept_points.LoopLaws.{one_is, step_le}
use Rattle.release.proofs.filling.LineLaws.{past_point}
use Rattle.release.proofs.filling.past_point.Goals as goal

pub overflow_add-u : goal.overflow_add-u
overflow_add-u c = omega (arith, c.requires.0.few, c.from.ensures ∙ one_is c.keeps.result, step_le c.keeps.result 1)

pub overflow_sub-u : goal.overflow_sub-u
overflow_sub-u c = omega (arith, c.requires.3)

pub overflow_add-u-2 : goal.overflow_add-u-2
overflow_add-u-2 c = let ready = c.requires.0 in omega (arith, ready.points_low, ready.short)

pub returns : goal.returns
returns c sheet =
    let a = c.args in
    let ready = c.requires.0 in
    let kept = c.keeps.ensures ∙ ap (keeps_by a.keeper.now.table a.keeper.now.boxes a.t.format) c.part_at-point.ensures
    ∙ (λ i. keeps_by a.keeper.now.table a.keeper.now.boxes (ready.format i) (part a.t.point_at (ready.size i) a.file.now)) in
    past_point sheet a.keeper.now a.file.now a.t ready c.requires.1 c.from.result c.requires.2 c.requires.3 (c.from.ensures ∙ one_is c.keeps.result ∙ ap (λ (b : Bool). cond b 1 0) kept)
