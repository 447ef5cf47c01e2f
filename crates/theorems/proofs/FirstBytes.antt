-- A point record's first 20 bytes decide, by the laws beside what is read of them. Assumes nothing.
use Rattle.sheet.proofs.class_table.ClassLaws.{keeps_front}
use Rattle.tally.proofs.TallyLaws.{tallied_front}
use Rattle.theorems.specs.FirstBytes.{FirstBytes}

pub first_bytes : FirstBytes
first_bytes = record { kept = λ sheet f n p h. keeps_front sheet f n p h; counted = λ f n t p h. tallied_front f n t p h }
