-- What the loop of `arrays::put_numbers` keeps: what the numbers still to write make of the output is what all make of
-- it. Assumes nothing.
use Rattle.fields.proofs.arrays.NumberLaws.{Writing}
use Rattle.fields.proofs.arrays.put_numbers.Given as goal

abbrev pub invariant-loop-number : goal.invariant-loop-number
invariant-loop-number l = Writing l.width l.at l.numbers l.initial.out l.out l.number-index l.to
