-- `box_index::key` meets its contract: the sum with 2 ^ 31 is not negative. Assumes nothing.
use mathlib.Core.Path.{◌∙◌}
use native.Mathlib.Omega.{arith}
use mir.Syntax.{w32, w64}
use Rattle.fields.proofs.LiftLaws.{cast_wider, sum_fits, back_fits, lift_back}
use Rattle.release.proofs.box_index.CellLaws.{key_is}
use Rattle.release.proofs.box_index.key.Goals as goal

pub overflow_cast-result : goal.overflow_cast-result
overflow_cast-result c = cast_wider w32 w64 (omega arith) c.args.z c.ranges.z

pub overflow_add-result : goal.overflow_add-result
overflow_add-result c = sum_fits 2147483648 (omega arith) (omega arith) c.args.z c.ranges.z

pub overflow_cast-result-2 : goal.overflow_cast-result-2
overflow_cast-result-2 c = back_fits 2147483648 (omega arith) (omega arith) c.args.z c.ranges.z

pub returns : goal.returns
returns c = lift_back 2147483648 (omega arith) (omega arith) c.args.z c.ranges.z ∙ key_is c.args.z
