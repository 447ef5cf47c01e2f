-- What the loop of `numbers::number_by_bytes` keeps: the number of the bytes from i on. Assumes nothing.
use Rattle.std.proofs.Common.{◌≡◌, drop}
use Rattle.fields.specs.Bytes.{num}
use Rattle.fields.proofs.numbers.number_by_bytes.Given as goal

abbrev pub invariant-loop-i : goal.invariant-loop-i
invariant-loop-i l = l.number ≡ num (drop l.i l.bytes)
