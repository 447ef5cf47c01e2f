-- `mend::marks_for` meets its contract. Assumes nothing.
use native.Mathlib.Omega.{arith}
use lib.Dec.{lit≤}
use Rattle.publicpart.specs.Bounds.{bound_numbers}
use Rattle.tally.specs.Bins.{bin_numbers}
use Rattle.editor.specs.Mend.{six_differ, marks_for}
use Rattle.editor.proofs.MendLaws.{all_fit}
use Rattle.editor.proofs.mend.marks_for.Goals as goal

pub six_differ-c-requires : goal.six_differ-c-requires
six_differ-c-requires c =
    let p = c.requires in
    let up = p.1 in
    let each = up.each in (
      lit≤ tt,
      omega (arith, p.0),
      all_fit 4 _ _ _ _ _ _ (omega (arith, up.total)) (omega (arith, each.first)) (omega (arith, each.second)) (omega (arith, each.third))
          (omega (arith, each.fourth)) (omega (arith, each.fifth)),
    )

pub six_differ-d-requires : goal.six_differ-d-requires
six_differ-d-requires c =
    let p = c.requires in (
      lit≤ tt,
      p.0,
      all_fit 8 _ _ _ _ _ _ (omega arith) (omega arith) (omega arith) (omega arith) (omega arith) (omega arith),
    )

pub returns : goal.returns
unfolding marks_for six_differ bin_numbers bound_numbers
returns c = rw (c.six_differ-c.ensures, c.six_differ-d.ensures)
