-- `kept_points::Keeper::leave_in_boxes` meets its contract. Assumes nothing.
use Rattle.std.proofs.Common.{◌≡◌, rules, ap, ◌∙◌, length}
use Rattle.points.specs.declared.raw.Stored.{Stored}
use Rattle.sheet.specs.Boxes.{in_boxes, in_any, along}
use Rattle.sheet.proofs.boxes.BoxLaws.{by_bytes}
use Rattle.release.proofs.kept_points.StayLaws.{stay_begun, stay_in, stay_next}
use Rattle.release.proofs.kept_points.Keeper.leave_in_boxes.Goals as goal

pub loop-j-init : goal.loop-j-init
loop-j-init c = stay_begun _ _ _ _ (search rules)

pub record_at-requires : goal.record_at-requires
record_at-requires c =
    let a = c.args in
    let l = c.loop-j in
    let long : length a.chosen.now.places ≡ 64 = search rules in
    stay_in (in_boxes a.self.now.boxes) a.block.record_length a.block.bytes.now a.chosen.now.places a.chosen.now.count c.requires.0 long c.requires.1
    l.chosen.places l.m l.j l.invariant c.loop-j-test.true

pub loop-j-preserved : goal.loop-j-preserved
loop-j-preserved c =
    let a = c.args in
    let l = c.loop-j in
    let keep = in_boxes a.self.now.boxes in
    let long : length a.chosen.now.places ≡ 64 = search rules in
    let inside : c.in_boxes.result ≡ keep c.record_at.result.now =
    c.in_boxes.ensures ∙ ap (λ (p : Stored). in_any a.self.now.boxes (along p)) c.stored_of-p.ensures ∙ by_bytes a.self.now.boxes c.record_at.result.now in
    rw c.from-m.ensures
    (stay_next keep a.block.record_length a.block.bytes.now a.chosen.now.places a.chosen.now.count c.requires.0 long c.requires.1
    l.chosen.places l.m l.j l.invariant c.loop-j-test.true _ (inside ∙ ap keep c.record_at.ensures))
