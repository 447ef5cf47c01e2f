-- `cutting::fill_list` meets its contract. Assumes nothing.
use Rattle.std.proofs.Common.{◌≡◌, arith, ap, ◌∙◌, List, take}
use Rattle.fields.specs.Bytes.{AllBytes}
use Rattle.publicpart.specs.declared.Span.{Span}
use Rattle.publicpart.specs.Cutting.{cutting_lines, fill}
use Rattle.release.specs.Filling.{kept_lines}
use Rattle.release.proofs.cutting.TableLaws.{by_table}
use Rattle.release.proofs.cutting.fill_list.Goals.{After-of}
use Rattle.release.proofs.cutting.fill_list.Goals as goal

-- the sheet's lines
lines_are : (c : After-of) → let a = c.args in kept_lines a.sheet.now c.of.result a.file.now ≡ cutting_lines a.sheet.now a.file.now
lines_are c =
    let a = c.args in
    let bytes : AllBytes a.file.now = λ i. omega (arith, c.type_inv.file i) in
    by_table a.sheet.now a.file.now bytes c.of.result c.of.ensures.table c.of.ensures.boxes

pub fill_kept-requires : goal.fill_kept-requires
fill_kept-requires c = (rw (lines_are (goal.at.fill_kept-requires c).After-of) c.requires.0, c.requires.1)

pub returns : goal.returns
returns c =
    c.fill_kept.ensures ∙ ap (λ (ls : List Span). fill (take c.args.n ls) c.args.list.now) (lines_are (goal.at.returns c).After-of)
