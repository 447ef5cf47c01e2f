-- `boxes::in_first` meets its contract. Assumes nothing.
use Rattle.std.proofs.Common.{refl, ◌||◌, add-one}
use Rattle.sheet.specs.Boxes.{in_first}
use Rattle.sheet.proofs.boxes.in_first.Goals as goal

pub loop-j-init : goal.loop-j-init
unfolding in_first
loop-j-init c = refl

pub loop-j-preserved : goal.loop-j-preserved
unfolding in_first
loop-j-preserved c =
    let l = c.loop-j in
    rw add-one (λ i. l.invariant i || c.in_box_at-found.ensures i)
