-- `doubles::bits_of` meets its contract. Assumes nothing.
use Rattle.scaling.proofs.doubles.bits_of.Goals as goal

pub returns : goal.returns
returns c = c.f64_to_bits_with_nan.ensures
