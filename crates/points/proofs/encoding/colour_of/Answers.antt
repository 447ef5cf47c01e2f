-- `encoding::colour_of` meets its contract. Assumes nothing.
use native.Mathlib.Omega.{arith}
use Rattle.points.specs.Encoding.{colours}
use Rattle.points.proofs.common.PackedLaws.{bytes_three}
use Rattle.points.proofs.encoding.colour_of.Goals as goal

pub returns : goal.returns
unfolding colours
returns c =
    rw (c.from.ensures, c.from-2.ensures, c.from-3.ensures) (bytes_three 2 2 2 _ _ _ (omega arith) (omega arith))
