-- `points::decode` meets its contract. Assumes nothing.
use mathlib.Core.Path.{sym, ap, ◌∙◌}
use lib.ListN.{length}
use mir.Syntax.{w8, w32}
use mir.ValLaws.{to_z-of_z}
use Rattle.std.specs.Prelude.{ℕ, Option}
use Rattle.points.specs.declared.layouts.Layout.{Layout}
use Rattle.points.specs.Formats.{layout_of}
use Rattle.points.specs.Points.{Fields, number_in}
use Rattle.points.proofs.AnswerLaws.{refused, accepted_by, with_others, shape_found, time_there, colour_there}
use Rattle.points.proofs.decode.Goals as goal

pub returns-then-not-has_shape : goal.returns-then-not-has_shape
returns-then-not-has_shape c =
    let a = c.args in
    sym (refused a.format a.record_length a.bytes.now _ c.has_shape.ensures c.if-not-has_shape.true-raw)

pub time_in-gps_time-requires : goal.time_in-gps_time-requires
time_in-gps_time-requires c at e =
    let a = c.args in
    time_there a.format (length a.bytes.now) (shape_found _ _ _ _ c.has_shape.ensures c.if-not-has_shape.false-raw) c.layout_of-layout.result c.layout_of-layout.ensures at e

pub colour_in-colour-requires : goal.colour_in-colour-requires
colour_in-colour-requires c at e =
    let a = c.args in
    colour_there a.format (length a.bytes.now) (shape_found _ _ _ _ c.has_shape.ensures c.if-not-has_shape.false-raw) c.layout_of-layout.result c.layout_of-layout.ensures at e

pub returns : goal.returns
unfolding layout_of
returns c =
    let a = c.args in
    let f = a.format in
    let s = a.bytes.now in
    let time = ap (λ (l : Layout). l.time) c.layout_of-layout.ensures in
    let colour = ap (λ (l : Layout). l.colour) c.layout_of-layout.ensures in
    let q = c.shared_of-shared.result in
    let told = c.struct_told-4-1.given in
    ap Fields
    (with_others f s q _ _ _ _ _ _ _ _ c.shared_of-shared.ensures
    (to_z-of_z w32 q.x (record { sfits = told.0.1 }))
    (to_z-of_z w32 q.y (record { sfits = told.1.0.1 }))
    (to_z-of_z w32 q.z (record { sfits = told.1.1.0.1 }))
    (to_z-of_z w8 q.scan_angle (record { sfits = told.1.1.1.1.1.1.1.1.1.0.1 }))
    (c.time_in-gps_time.ensures ∙ ap (λ (k : Option ℕ). number_in 8 k 0 s) time)
    (c.colour_in-colour.ensures.0 ∙ ap (λ (k : Option ℕ). number_in 2 k 0 s) colour)
    (c.colour_in-colour.ensures.1 ∙ ap (λ (k : Option ℕ). number_in 2 k 2 s) colour)
    (c.colour_in-colour.ensures.2 ∙ ap (λ (k : Option ℕ). number_in 2 k 4 s) colour))
    ∙ sym (accepted_by f a.record_length s _ c.has_shape.ensures c.if-not-has_shape.false-raw)
