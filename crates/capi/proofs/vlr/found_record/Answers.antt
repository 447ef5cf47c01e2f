-- `vlr::found_record` meets its contract. Assumes nothing.
use mathlib.Core.Path.{refl}
use Rattle.capi.specs.RecordAnswers.{found_record}
use Rattle.capi.proofs.vlr.found_record.Goals as goal

pub returns : goal.returns
unfolding found_record
returns c = refl
