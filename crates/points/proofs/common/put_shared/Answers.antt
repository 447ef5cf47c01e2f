-- `common::put_shared` meets its contract: each field is written behind the one before it. Assumes nothing.
use mathlib.Core.Path.{◌≡◌, refl, ◌∙◌, ap}
use mir.Syntax.{w32}
use lib.Seq.{sets}
use Rattle.fields.specs.Bytes.{bytes_of}
use Rattle.fields.proofs.ByteLaws.{length-bytes_of}
use Rattle.points.specs.Encoding.{shared_fields}
use Rattle.points.proofs.common.BitsLaws.{passed}
use Rattle.points.proofs.common.RoomLaws.{then_more}
use Rattle.points.proofs.common.put_shared.Goals as goal

pub returns : goal.returns
unfolding shared_fields
returns c =
    let args = c.args in
    let q = args.point in
    let x = c.from.ensures ∙ c.cast_unsigned.ensures ∙ passed w32 q.x (record { sfits = c.struct_told-1.given.0.1 }) in
    let y = c.from-2.ensures ∙ c.cast_unsigned-2.ensures ∙ passed w32 q.y (record { sfits = c.struct_told-2-1.given.1.0.1 }) in
    let z = c.from-3.ensures ∙ c.cast_unsigned-3.ensures ∙ passed w32 q.z (record { sfits = c.struct_told-3-1.given.1.1.0.1 }) in
    let intensity : c.put_number-4.new.s ≡ sets c.put_number-3.new.s 12 (bytes_of 2 q.intensity) = rw c.from-4.ensures at c.put_number-4.ensures in
    let last : c.put_number-7.new.s ≡ sets c.put_number-6.new.s 16 (bytes_of 4 c.last_of.result) = c.put_number-7.ensures in
    then_more _ _ _ 0 4 4 _ _ _ c.put_number.ensures (ap (bytes_of 4) x) (length-bytes_of 4 _) refl
    (then_more _ _ _ 4 4 8 _ _ _ c.put_number-2.ensures (ap (bytes_of 4) y) (length-bytes_of 4 _) refl
    (then_more _ _ _ 8 4 12 _ _ _ c.put_number-3.ensures (ap (bytes_of 4) z) (length-bytes_of 4 _) refl
    (then_more _ _ _ 12 2 14 _ _ _ intensity refl (length-bytes_of 2 _) refl
    (then_more _ _ _ 14 1 15 _ _ _ c.put_number-5.ensures (ap (bytes_of 1) c.flag_byte.ensures) (length-bytes_of 1 _) refl
    (then_more _ _ _ 15 1 16 _ _ _ c.put_number-6.ensures (ap (bytes_of 1) c.joined_class.ensures) (length-bytes_of 1 _) refl
    (last ∙ ap (sets c.put_number-6.new.s 16) (c.last_of.ensures args.format)))))))
