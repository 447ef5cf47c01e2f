-- `geokeys::payload_at` meets its contract. Assumes nothing.
use mathlib.Core.Path.{sym, ap, ◌∙◌}
use Prim.Native.Nat.{ℕ, ◌+◌}
use Rattle.fields.specs.Bytes.{part}
use Rattle.lasfile.proofs.vlr.FieldLaws.{record_at-payload}
use Rattle.geokeys.specs.GeoKeys.{payload_at}
use Rattle.geokeys.proofs.payload_at.Goals as goal

pub returns : goal.returns
unfolding payload_at
returns c =
    let a = c.args in
    let s = a.file.now in
    c.part_at.ensures ∙ ap (λ (k : ℕ). part (a.at + 54) k s) c.payload_length_at.ensures.0 ∙ sym (record_at-payload 2 s a.at)
