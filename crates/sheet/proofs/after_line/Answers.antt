-- `sheet::after_line` meets its contract. Assumes nothing.
use mathlib.Core.Path.{ap, ◌∙◌}
use lib.ListN.{length, drop}
use Rattle.fields.specs.Bytes.{Bytes}
use Rattle.fields.proofs.StoreLaws.{tail_part}
use Rattle.sheet.proofs.LineLaws.{after_first}
use Rattle.sheet.proofs.after_line.Goals as goal

pub returns : goal.returns
returns c =
    let s = c.args.rest.now in
    let line = c.first_line-line.result.now in
    tail_part s (length line) ∙ ap (λ (l : Bytes). drop (length l) s) c.first_line-line.ensures ∙ after_first s
