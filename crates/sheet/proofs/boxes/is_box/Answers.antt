-- `boxes::is_box` meets its contract. Assumes nothing.
use Rattle.sheet.specs.Sheet.{kind}
use Rattle.sheet.specs.Keeping.{is_box}
use Rattle.sheet.proofs.LineLaws.{is_region}
use Rattle.sheet.proofs.boxes.is_box.Goals as goal

pub returns-in-Some-Region : goal.returns-in-Some-Region
unfolding is_box
returns-in-Some-Region c =
    let three = is_region (kind c.args.line.now) _ _ c.of.ensures c.in-Some-Region.is c.in-Some-Region.field-0-is in
    rw three
