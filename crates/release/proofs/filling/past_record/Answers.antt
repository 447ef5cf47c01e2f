-- `filling::past_record` meets its contract. Assumes nothing.
use mathlib.Core.Path.{ap, ◌∙◌}
use native.Mathlib.Omega.{arith}
use mathlib.Core.Bool.{Bool, cond}
use Rattle.fields.specs.Bytes.{Bytes}
use Rattle.fields.proofs.ByteLaws.{from_place}
use Rattle.lasfile.specs.Records.{record_of}
use Rattle.publicpart.specs.Public.{sheet_keeps}
use Rattle.release.proofs.kept_points.LoopLaws.{one_is, step_le}
use Rattle.release.proofs.filling.LineLaws.{past_record}
use Rattle.release.proofs.filling.past_record.Goals as goal

pub overflow_add-u : goal.overflow_add-u
overflow_add-u c = omega (arith, c.requires.0.few, c.from.ensures ∙ one_is c.keeps.result, step_le c.keeps.result 1)

pub overflow_sub-u : goal.overflow_sub-u
overflow_sub-u c = omega (arith, c.requires.2)

pub overflow_add-u-2 : goal.overflow_add-u-2
overflow_add-u-2 c = omega (arith, c.requires.0.records_low, c.size_at.ensures.1)

pub returns : goal.returns
returns c keeper =
    let a = c.args in
    let kept = c.keeps.ensures ∙ ap (λ (v : Bytes). sheet_keeps a.sheet.now (record_of 2 v)) (c.part_at-vlr.ensures ∙ from_place a.file.now a.t.record_at) in
    past_record a.sheet.now keeper a.file.now a.t c.requires.0 c.requires.1 c.from.result c.requires.2
    (c.from.ensures ∙ one_is c.keeps.result ∙ ap (λ (b : Bool). cond b 1 0) kept) c.size_at.result c.size_at.ensures.0 c.size_at.ensures.1
