-- `mend::six_differ` meets its contract. Assumes nothing.
use native.Mathlib.Omega.{arith}
use Rattle.editor.specs.Mend.{six_differ}
use Rattle.editor.proofs.mend.six_differ.Goals as goal

pub field_differs-requires : goal.field_differs-requires
field_differs-requires c =
    let p = c.requires in
    (p.0, omega (arith, p.1), p.2 0)

pub field_differs-requires-2 : goal.field_differs-requires-2
field_differs-requires-2 c =
    let p = c.requires in
    (p.0, omega (arith, p.1), p.2 1)

pub field_differs-requires-3 : goal.field_differs-requires-3
field_differs-requires-3 c =
    let p = c.requires in
    (p.0, omega (arith, p.1), p.2 2)

pub field_differs-requires-4 : goal.field_differs-requires-4
field_differs-requires-4 c =
    let p = c.requires in
    (p.0, omega (arith, p.1), p.2 3)

pub field_differs-requires-5 : goal.field_differs-requires-5
field_differs-requires-5 c =
    let p = c.requires in
    (p.0, omega (arith, p.1), p.2 4)

pub field_differs-requires-6 : goal.field_differs-requires-6
field_differs-requires-6 c =
    let p = c.requires in
    (p.0, omega (arith, p.1), p.2 5)

pub returns : goal.returns
unfolding six_differ
returns c =
    rw (
      c.field_differs.ensures,
      c.field_differs-2.ensures,
      c.field_differs-3.ensures,
      c.field_differs-4.ensures,
      c.field_differs-5.ensures,
      c.field_differs-6.ensures,
    )
