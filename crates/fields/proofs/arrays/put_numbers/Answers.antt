-- `arrays::put_numbers` meets its contract. Assumes nothing.
use native.Mathlib.Omega.{arith}
use Rattle.fields.proofs.arrays.NumberLaws.{writing_begins, writing_next, writing_ends}
use Rattle.fields.proofs.arrays.put_numbers.Goals as goal

pub loop-number-init : goal.loop-number-init
loop-number-init c =
    let a = c.args in
    writing_begins a.width a.at a.numbers.now a.out.now c.least-to.result c.least-to.ensures

pub overflow_sub-out : goal.overflow_sub-out
overflow_sub-out c = let l = c.loop-number in omega (arith, l.invariant.inside, c.put_number.auto.s)

pub overflow_add-to : goal.overflow_add-to
overflow_add-to c =
    let l = c.loop-number in
    omega (arith, l.invariant.inside, c.put_number.auto.s, c.least-to-in-loop-number.ensures, c.well_formed)

pub loop-number-preserved : goal.loop-number-preserved
loop-number-preserved c =
    let l = c.loop-number in
    writing_next _ _ _ _ l.out l.number-index l.to (omega arith) l.invariant _ _ c.put_number.ensures c.least-to-in-loop-number.ensures

pub returns : goal.returns
returns c =
    let l = c.loop-number in
    writing_ends _ _ _ _ l.out l.number-index l.to (omega arith) l.invariant
