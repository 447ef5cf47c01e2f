-- `class_table::keeps_byte` meets its contract. Assumes nothing.
use mathlib.Core.Path.{sym, ap, ◌∙◌}
use Rattle.sheet.specs.Keeping.{keeps_class}
use Rattle.sheet.proofs.class_table.ClassLaws.{byte_withheld, byte_of_class}
use Rattle.sheet.proofs.class_table.keeps_byte.Goals as goal

pub returns-then-withheld_in : goal.returns-then-withheld_in
returns-then-withheld_in c =
    let a = c.args in
    sym (byte_withheld a.sheet.now a.format a.byte (sym c.withheld_in.ensures ∙ c.if-withheld_in.true))

pub returns : goal.returns
returns c =
    let a = c.args in
    c.holds_class.ensures
    ∙ ap (keeps_class a.sheet.now) c.class_in-class.ensures
    ∙ sym (byte_of_class a.sheet.now a.format a.byte (sym c.withheld_in.ensures ∙ c.if-withheld_in.false))
