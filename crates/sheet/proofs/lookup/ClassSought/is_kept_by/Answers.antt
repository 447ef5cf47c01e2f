-- `lookup::Class::is_kept_by` meets its contract. Assumes nothing.
use Rattle.sheet.specs.Sheet.{kind, lowest, highest}
use Rattle.sheet.specs.Keeping.{contains_class}
use Rattle.sheet.proofs.LineLaws.{is_classes}
use Rattle.sheet.proofs.lookup.ClassSought.is_kept_by.Goals as goal

pub returns-in-Some-Classes : goal.returns-in-Some-Classes
unfolding contains_class kind lowest highest
returns-in-Some-Classes c =
    let one = is_classes (kind c.args.line.now) _ _ c.of.ensures c.in-Some-Classes.is c.in-Some-Classes.field-0-is in
    rw (one, c.u8_at.ensures, c.u8_at-in-Some-Classes.ensures)
