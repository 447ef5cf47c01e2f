-- What the loop of `text::same_cut` keeps: whether the cuts are the same is whether what is left of them from i on is.
-- Assumes nothing.
use mathlib.Core.Path.{◌≡◌}
use lib.ListN.{drop}
use Rattle.fields.specs.Bytes.{same}
use Rattle.fields.specs.Text.{cut}
use Rattle.fields.proofs.text.same_cut.Given as goal

abbrev pub invariant-loop-i : goal.invariant-loop-i
invariant-loop-i l = same (cut l.a) (cut l.b) ≡ same (cut (drop l.i l.a)) (cut (drop l.i l.b))
