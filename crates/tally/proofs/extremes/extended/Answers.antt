-- `extremes::extended` meets its contract, field by field: each signed number comes back from its bits. Assumes
-- nothing.
use Rattle.std.proofs.Common.{◌≡◌, rules}
use mir.Syntax.{w32}
use mir.ValLaws.{to_z-of_z}
use Rattle.tally.specs.Extremes.{extremes_with}
use Rattle.tally.proofs.extremes.ExtremeLaws.{larger, smaller}
use Rattle.tally.proofs.extremes.extended.Goals as goal

pub returns : goal.returns
unfolding extremes_with
returns c =
    let e = c.args.e in
    let p = c.args.p in
    let max_x = larger c.max.result e.max_x p.x c.max.ensures.value (search rules) (search rules) in
    let min_x = smaller c.min.result e.min_x p.x c.min.ensures.value (search rules) (search rules) in
    let max_y = larger c.max-2.result e.max_y p.y c.max-2.ensures.value (search rules) (search rules) in
    let min_y = smaller c.min-2.result e.min_y p.y c.min-2.ensures.value (search rules) (search rules) in
    let max_z = larger c.max-3.result e.max_z p.z c.max-3.ensures.value (search rules) (search rules) in
    let min_z = smaller c.min-3.result e.min_z p.z c.min-3.ensures.value (search rules) (search rules) in
    rw (
      to_z-of_z w32 c.max.result (record { sfits = c.max.type_inv }),
      to_z-of_z w32 c.min.result (record { sfits = c.min.type_inv }),
      to_z-of_z w32 c.max-2.result (record { sfits = c.max-2.type_inv }),
      to_z-of_z w32 c.min-2.result (record { sfits = c.min-2.type_inv }),
      to_z-of_z w32 c.max-3.result (record { sfits = c.max-3.type_inv }),
      to_z-of_z w32 c.min-3.result (record { sfits = c.min-3.type_inv }),
    )
    (λ i. record { max_x = max_x i; min_x = min_x i; max_y = max_y i; min_y = min_y i; max_z = max_z i; min_z = min_z i })
