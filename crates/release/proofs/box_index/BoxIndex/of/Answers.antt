-- `box_index::BoxIndex::of` meets its contract. Assumes nothing.
use Rattle.std.proofs.Common.{◌≡◌, ℕ, arith, subst, ◌∙◌}
use Rattle.sheet.specs.Boxes.{box_count}
use Rattle.release.specs.BoxIndex.{Indexed}
use Rattle.release.proofs.box_index.BoxIndex.of.Goals.{then-count-gt1, else-count-gt1}
use Rattle.release.proofs.box_index.BoxIndex.of.Goals as goal

pub returns : goal.returns
returns c = λ several.
    let b = c.args.boxes.now in
    let all : c.if-count-gt1.n ≡ box_count b =
    elim c.if-count-gt1.branch [
      | then-count-gt1 w ↦ w.n-is ∙ c.count-count.ensures.0
      | else-count-gt1 w ↦ absurd (omega (arith, several, c.count-count.ensures.0, w.if-count-gt1.false))
    ] in
    subst (λ (n : ℕ). Indexed b n (record { x = c.of.result; y = c.of-2.result; z = c.of-3.result })) all
    record { x = c.of.ensures; y = c.of-2.ensures; z = c.of-3.ensures }
