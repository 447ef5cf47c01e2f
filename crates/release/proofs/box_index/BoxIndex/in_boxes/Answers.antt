-- `box_index::BoxIndex::in_boxes` meets its contract. Assumes nothing.
use native.Mathlib.Omega.{arith}
use mathlib.Core.Path.{◌≡◌, ◌∙◌}
use borrow.Author.Tests.{lt-ltb}
use native.Mathlib.Nat.{mod-lt}
use Prim.Native.Nat.{◌%◌, ◌<◌}
use mathlib.Core.Bool.{◌&&◌}
use lib.Dec.{ltb}
use lib.Count.{count_trailing_zeros}
use Rattle.sheet.specs.Boxes.{along, in_box_at, in_first}
use Rattle.release.proofs.box_index.NearLaws.{one_says, one_at_most, any_first}
use Rattle.release.proofs.box_index.BoxIndex.in_boxes.Goals as goal

-- the only box
pub returns-then-n-eq1 : goal.returns-then-n-eq1
unfolding in_first
returns-then-n-eq1 c =
    let a = c.args in
    let one : a.n ≡ 1 = omega arith in
    c.in_box.ensures ∙ rw one at (any_first a.boxes.now a.n (along a.p) c.requires.0 c.requires.1)

-- one box says it
pub returns-then-near-j : goal.returns-then-near-j
returns-then-near-j c =
    let a = c.args in
    let several : 1 < a.n = omega (arith, c.requires.0, c.if-n-eq1.false) in
    let near = c.boxes_near-near in
    let j = count_trailing_zeros 64 near.result % 64 in
    let small : j < 64 = mod-lt (count_trailing_zeros 64 near.result) (omega arith) in
    let inside : ltb j a.n && c.in_box-2.result ≡ ltb j a.n && in_box_at a.boxes.now j (along a.p) =
    rw (c.in_box-2.ensures, lt-ltb j 64 small) in
    let indexed = rw (← c.requires.1) at (c.requires.2 (rw (← c.requires.1) several)) in
    one_says a.boxes.now a.self.now a.n indexed a.p near.result j near.ensures (one_at_most near.result j small c.if-near-j.true) _ inside
    ∙ any_first a.boxes.now a.n (along a.p) c.requires.0 c.requires.1
