-- `sheet::in_order` meets its contract. Assumes nothing.
use Rattle.sheet.specs.Sheet.{in_order, kind}
use Rattle.sheet.proofs.LineLaws.{is_region}
use Rattle.sheet.proofs.in_order.Goals as goal

pub returns-in-Some-Region : goal.returns-in-Some-Region
unfolding in_order kind
returns-in-Some-Region c =
    let three = is_region (kind c.args.line.now) _ _ c.of.ensures c.in-Some-Region.is c.in-Some-Region.field-0-is in
    rw (three, c.box_in_order.ensures)
