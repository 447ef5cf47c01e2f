-- What the loop of `text::cut_length` keeps: the bytes before place i are those up to `end` and `spaces` more, end is
-- the cut's length as far as there, and `cut_end` says what the rest makes of it. Assumes nothing.
use mathlib.Core.Path.{◌≡◌}
use Prim.Native.Nat.{◌+◌}
use lib.ListN.{length, drop}
use Rattle.fields.specs.Text.{cut}
use Rattle.fields.proofs.text.EndLaws.{cut_end}
use Rattle.fields.proofs.text.cut_length.Given as goal

abbrev pub invariant-loop-byte : goal.invariant-loop-byte
invariant-loop-byte l =
    (l.end + l.spaces ≡ l.byte-index) × (length (cut l.text) ≡ cut_end l.end l.byte-index (length (cut (drop l.byte-index l.text))))
