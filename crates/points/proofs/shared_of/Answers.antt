-- `points::shared_of` meets its contract, field by field. Assumes nothing.
use mathlib.Core.Path.{◌≡◌, ap, ◌∙◌}
use native.Mathlib.Omega.{arith}
use lib.ListN.{get_or}
use lib.IntN.{ℤ}
use mir.Syntax.{w8, w32}
use mir.Val.{SFits, to_z, of_z}
use mir.ValLaws.{to_z-of_z}
use Rattle.points.specs.declared.raw.Stored.{Stored}
use Rattle.points.specs.Formats.{time_place, colour_place}
use Rattle.points.specs.Raw.{bits, bit, class_in, synthetic_in, key_point_in, withheld_in, class_of, synthetic_of, key_point_of, withheld_of, stored_of}
use Rattle.points.specs.Points.{point_of}
use Rattle.points.specs.Encoding.{blank}
use Rattle.points.proofs.formats.FormatLaws.{plain}
use Rattle.points.proofs.FieldLaws.{value_none}
use Rattle.points.proofs.shared_of.Goals as goal

pub returns : goal.returns
unfolding point_of blank bits bit stored_of class_of synthetic_of key_point_of withheld_of
returns c =
    let told = c.struct_told-1.given in
    let source = c.u16_at-2.ensures in
    let user = c.u8_at.ensures in
    let return = c.return_of.ensures in
    let byte = c.class_byte-class_byte.ensures in
    let flags = c.u8_at-flags.ensures in
    let stored = c.stored_of-stored.ensures in
    let args = c.args in
    let f = args.format in
    let s = args.s.now in
    let whole = point_of f s in
    let signed : c.i8_at.result ≡ to_z w8 (get_or s 16 0) = c.i8_at.ensures in
    let angle = to_z-of_z w8 c.i8_at.result (record { sfits = c.i8_at.type_inv }) ∙ signed in
    -- a stored value comes back from its bits
    let back : (axis : Stored → ℤ) → SFits w32 (axis c.stored_of-stored.result) → to_z w32 (of_z w32 (axis c.stored_of-stored.result)) ≡ axis (stored_of s) =
    λ axis fits. to_z-of_z w32 (axis c.stored_of-stored.result) fits ∙ ap axis stored in
    let no_gps_time : c.default.result.gps_time ≡ 0 = omega arith in
    let no_red : c.default.result.red ≡ 0 = omega arith in
    let no_green : c.default.result.green ≡ 0 = omega arith in
    let no_blue : c.default.result.blue ≡ 0 = omega arith in
    λ i.
    record {
      x = back (λ q. q.x) (record { sfits = told.0.1 }) i;
      y = back (λ q. q.y) (record { sfits = told.1.0.1 }) i;
      z = back (λ q. q.z) (record { sfits = told.1.1.0.1 }) i;
      intensity = c.u16_at.ensures i;
      return_number = return i;
      returns = bits 3 3 (flags i);
      scan_direction = bit 6 (flags i);
      edge = bit 7 (flags i);
      classification = (c.class_in.ensures ∙ ap (class_in f) byte) i;
      scan_angle = angle i;
      user_data = user i;
      source_id = source i;
      gps_time = (no_gps_time ∙ value_none (time_place 0) whole.gps_time plain.0) i;
      red = (no_red ∙ value_none (colour_place 0) whole.red plain.1) i;
      green = (no_green ∙ value_none (colour_place 0) whole.green plain.1) i;
      blue = (no_blue ∙ value_none (colour_place 0) whole.blue plain.1) i;
      synthetic = (c.synthetic_in.ensures ∙ ap (synthetic_in f) byte) i;
      key_point = (c.key_point_in.ensures ∙ ap (key_point_in f) byte) i;
      withheld = (c.withheld_in.ensures ∙ ap (withheld_in f) byte) i;
    }
