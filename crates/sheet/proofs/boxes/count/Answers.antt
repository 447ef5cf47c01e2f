-- `boxes::count` meets its contract: the number is read as it is, and as one from 0 to 64. Assumes nothing.
use native.Mathlib.Omega.{arith}
use mir.Syntax.{w32}
use mir.Val.{SFits}
use mir.ValLaws.{to_z-of_z}
use Rattle.sheet.specs.Boxes.{box_count}
use Rattle.sheet.proofs.boxes.NumberLaws.{tested, below_0, below_64, from_64}
use Rattle.sheet.proofs.boxes.count.Goals.{After-n-1}
use Rattle.sheet.proofs.boxes.count.Goals as goal

fits : (c : After-n-1) → SFits w32 c.args.boxes.now.count
fits c = record { sfits = c.n-1.given }

pub returns-then-n-lt0 : goal.returns-then-n-lt0
unfolding box_count
returns-then-n-lt0 c = (below_0 c.args.boxes.now.count (tested 0 (fits (goal.at.returns-then-n-lt0 c).After-n-1) c.if-n-lt0.true), omega arith)

pub returns-then-n-lt64 : goal.returns-then-n-lt64
unfolding box_count
returns-then-n-lt64 c =
    let z = c.args.boxes.now.count in
    let f = fits (goal.at.returns-then-n-lt64 c).After-n-1 in
    rw (to_z-of_z w32 z f) (below_64 z (tested 0 f c.if-n-lt0.false) (tested 64 f c.if-n-lt64.true))

pub returns-else-n-lt64 : goal.returns-else-n-lt64
unfolding box_count
returns-else-n-lt64 c =
    (from_64 c.args.boxes.now.count (tested 64 (fits (goal.at.returns-else-n-lt64 c).After-n-1) c.if-n-lt64.false), omega arith)
