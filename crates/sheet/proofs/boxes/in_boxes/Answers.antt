-- `boxes::in_boxes` meets its contract. Assumes nothing.
use mathlib.Core.Path.{ap, ◌∙◌}
use Rattle.points.specs.declared.raw.Stored.{Stored}
use Rattle.sheet.specs.Boxes.{along, in_any}
use Rattle.sheet.proofs.boxes.BoxLaws.{by_bytes}
use Rattle.sheet.proofs.boxes.in_boxes.Goals as goal

pub returns : goal.returns
returns c =
    let a = c.args in
    c.in_any.ensures ∙ ap (λ (p : Stored). in_any a.boxes.now (along p)) c.stored_of.ensures ∙ by_bytes a.boxes.now a.point.now
