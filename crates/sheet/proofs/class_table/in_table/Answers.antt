-- `class_table::in_table` meets its contract. Assumes nothing.
use mathlib.Core.Path.{ap, ◌∙◌}
use Prim.Native.Nat.{ℕ}
use mathlib.Core.Bool.{false}
use lib.ListN.{get_or}
use Rattle.sheet.specs.Keeping.{in_table}
use Rattle.sheet.proofs.class_table.in_table.Goals as goal

pub returns : goal.returns
unfolding in_table
returns c =
    let table = c.args.table.now in
    ap (λ (byte : ℕ). get_or table byte false) (c.from.ensures ∙ c.class_byte.ensures)
