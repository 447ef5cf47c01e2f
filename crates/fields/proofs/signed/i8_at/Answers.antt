-- `signed::i8_at` meets its contract. Assumes nothing.
use mathlib.Core.Path.{◌≡◌, ◌∙◌, ap}
use mir.Syntax.{w8}
use mir.Val.{to_z}
use mir.ValLaws.{to_z-of_z}
use Rattle.fields.proofs.signed.i8_at.Goals as goal

pub returns : goal.returns
returns c =
    let signed : c.cast_signed.result ≡ to_z w8 c.u8_at.result = c.cast_signed.ensures in
    to_z-of_z w8 c.cast_signed.result (record { sfits = c.cast_signed.type_inv }) ∙ signed ∙ ap (to_z w8) c.u8_at.ensures
