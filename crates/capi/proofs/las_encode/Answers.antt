-- `capi::las_encode` meets its contract. Assumes nothing.
use mathlib.Core.Path.{sym}
use Rattle.fields.specs.Checks.{number_of}
use Rattle.capi.specs.Interface.{las_encode}
use Rattle.capi.proofs.Lent.{in_numbers}
use Rattle.capi.proofs.las_encode.Goals as goal

pub returns : goal.returns
unfolding las_encode
returns c = rw (sym c.from.ensures) (in_numbers number_of c.number_of.ensures c.encode.ensures)
