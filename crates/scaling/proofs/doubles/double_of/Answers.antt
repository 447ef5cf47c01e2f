-- `doubles::double_of` meets its contract. Assumes nothing.
use Rattle.scaling.proofs.doubles.double_of.Goals as goal

pub returns : goal.returns
returns c = c.f64_from_bits_with_nan.ensures
