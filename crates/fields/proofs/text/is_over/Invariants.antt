-- What the loop of `text::is_over` keeps: as much is left from i on as from the given place on. Assumes nothing.
use mathlib.Core.Path.{◌≡◌}
use mathlib.Core.List.{[]}
use lib.ListN.{drop}
use Rattle.fields.specs.Bytes.{same}
use Rattle.fields.specs.Text.{cut}
use Rattle.fields.proofs.text.is_over.Given as goal

abbrev pub invariant-loop-next : goal.invariant-loop-next
invariant-loop-next l = same (cut (drop l.at l.text)) [] ≡ same (cut (drop l.next-index l.rest)) []
