-- `encoding::put_others` meets its contract. Assumes nothing.
use mathlib.Core.Path.{ap, ◌∙◌}
use native.Mathlib.Omega.{arith}
use lib.ListN.{length}
use mathlib.Core.List.{[], ◌∷◌}
use Rattle.fields.specs.Bytes.{bytes_of}
use Rattle.points.specs.Formats.{time_place, colour_place, layout_of}
use Rattle.points.specs.declared.layouts.Layout.{Layout}
use Rattle.points.specs.Encoding.{time_fields, colours, colour_fields}
use Rattle.points.proofs.AnswerLaws.{time_there, colour_there}
use Rattle.points.proofs.common.RoomLaws.{alone}
use Rattle.points.proofs.encoding.RoomLaws.{placed}
use Rattle.points.proofs.encoding.put_others.Goals as goal

pub put_at-requires : goal.put_at-requires
put_at-requires c at e =
    omega (arith, time_there c.args.format (length c.args.room.now) c.requires c.layout_of-layout.result c.layout_of-layout.ensures at e)

pub put_at-requires-2 : goal.put_at-requires-2
put_at-requires-2 c at e =
    omega (arith, colour_there c.args.format (length c.args.room.now) c.requires c.layout_of-layout.result c.layout_of-layout.ensures at e)

pub returns : goal.returns
unfolding layout_of time_fields colour_fields
returns c =
    let a = c.args in
    let f = a.format in
    let layout = c.layout_of-layout.ensures in
    let time = bytes_of 8 a.point.gps_time in
    let one =
    rw (ap (λ (l : Layout). l.time) layout) at c.put_at.ensures
    ∙ placed (time_place f) (time ∷ []) time a.room.now (alone time) in
    rw (ap (λ (l : Layout). l.colour) layout, one) at c.put_at-2.ensures
    ∙ placed (colour_place f) (colours a.point) _ _ c.colour_of.ensures
