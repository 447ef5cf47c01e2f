-- `encoding::encode` meets its contract: the shared fields are written in front of the others. Assumes nothing.
use mathlib.Core.Path.{sym, ap, ◌∙◌}
use native.Mathlib.Omega.{arith}
use lib.ListN.{length}
use lib.Seq.{sets}
use Rattle.fields.specs.Bytes.{Bytes}
use Rattle.fields.specs.Checks.{Passes}
use Rattle.points.specs.Encoding.{point_bytes}
use Rattle.points.proofs.AnswerLaws.{shape_found}
use Rattle.points.proofs.encoding.AnswerLaws.{refused_12, refused_13, stored_by}
use Rattle.points.proofs.encoding.LayoutLaws.{all_stored}
use Rattle.points.proofs.encoding.encode.Goals as goal

pub returns-then-not-has_shape : goal.returns-then-not-has_shape
returns-then-not-has_shape c =
    let a = c.args in
    sym (refused_12 a.format a.record_length a.point a.room.now _ c.has_shape.ensures c.if-not-has_shape.true-raw)

pub returns-then-is_large : goal.returns-then-is_large
returns-then-is_large c =
    let a = c.args in
    sym (refused_13 a.format a.record_length a.point a.room.now _ c.has_shape.ensures c.if-not-has_shape.false-raw (sym c.is_large.ensures ∙ c.if-is_large.true))

pub put_others-requires : goal.put_others-requires
put_others-requires c =
    let a = c.args in
    let there = shape_found a.format a.record_length (length a.room.now) _ c.has_shape.ensures c.if-not-has_shape.false-raw in
    (there.0, omega arith)

pub returns : goal.returns
returns c =
    let a = c.args in
    ◌∙◌
    {b = (Passes, sets a.room.now 0 (point_bytes a.format a.point))}
    (ap (λ (b : Bytes). (Passes, b)) (all_stored a.format a.point a.room.now _ _ c.put_others.ensures c.put_shared.ensures))
    (sym (stored_by a.format a.record_length a.point a.room.now _ c.has_shape.ensures c.if-not-has_shape.false-raw (sym c.is_large.ensures ∙ c.if-is_large.false)))
