-- `vlrs::payload_of` meets its contract. Assumes nothing.
use mathlib.Core.Path.{sym, ap, ◌∙◌}
use Prim.Native.Nat.{ℕ}
use Rattle.fields.specs.Bytes.{part}
use Rattle.lasfile.proofs.vlr.FieldLaws.{payload_of}
use Rattle.release.proofs.vlrs.payload_of.Goals as goal

pub returns : goal.returns
returns c =
    let v = c.args.vlr.now in
    c.part_at.ensures ∙ ap (λ (n : ℕ). part 54 n v) c.payload_length_at.ensures.0 ∙ sym (payload_of 2 v)
