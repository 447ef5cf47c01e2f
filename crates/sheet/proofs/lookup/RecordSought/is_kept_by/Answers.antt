-- `lookup::Record::is_kept_by` meets its contract. Assumes nothing.
use Rattle.sheet.specs.Sheet.{kind, user_id, record_id}
use Rattle.sheet.specs.Keeping.{names_record}
use Rattle.sheet.proofs.LineLaws.{is_record}
use Rattle.sheet.proofs.lookup.RecordSought.is_kept_by.Goals as goal

pub returns-in-Some-Record : goal.returns-in-Some-Record
unfolding names_record kind user_id record_id
returns-in-Some-Record c =
    let two = is_record (kind c.args.line.now) _ _ c.of.ensures c.in-Some-Record.is c.in-Some-Record.field-0-is in
    rw (two, c.same_cut.ensures, c.part_at.ensures, c.number_at.ensures.0, c.from.ensures)
