-- `copier::copy_chosen` meets its contract. Assumes nothing.
use Rattle.std.proofs.Common.{◌≡◌, ◌+◌, ◌≤◌, rules, arith, ap, ◌∙◌, length}
use lib.Seq.{sets, length-take-le}
use Rattle.fields.proofs.ByteLaws.{length_part}
use Rattle.fields.proofs.StoreLaws.{stored_whole}
use Rattle.release.specs.KeptPoints.{chosen_of}
use Rattle.release.proofs.copier.ChosenLaws.{place_of, paste_begun, room, paste_turned}
use Rattle.release.proofs.copier.copy_chosen.Goals as goal

pub loop-at-init : goal.loop-at-init
loop-at-init c =
    let chosen = c.args.chosen.now in
    let size : length chosen.places ≡ 64 = search rules in
    let number : length (chosen_of chosen) ≡ chosen.count = length-take-le chosen.count chosen.places (omega (arith, size, c.requires.0)) in
    paste_begun _ _ (chosen_of chosen) _ (rw number c.requires.2)

pub loop-at-preserved : goal.loop-at-preserved
loop-at-preserved c =
    let a = c.args in
    let l = c.loop-at in
    let w = a.block.record_length in
    let run = a.block.bytes.now in
    let chosen = chosen_of a.chosen.now in
    let size : length a.chosen.now.places ≡ 64 = search rules in
    let number : length chosen ≡ a.chosen.now.count = length-take-le a.chosen.now.count a.chosen.now.places (omega (arith, size, c.requires.0)) in
    let wide : length c.record_at.result.now ≡ w = rw c.record_at.ensures (length_part _ w run (place_of w run chosen l.at-index (omega (arith, number)) c.requires.1)) in
    let space : l.to + length c.record_at.result.now ≤ length l.out =
    omega (arith, wide, l.invariant.same, room w run chosen a.out.now l.out l.to l.at-index l.invariant (omega (arith, number)) c.requires.1) in
    paste_turned w run chosen a.out.now l.out l.to l.at-index l.invariant (omega (arith, number)) c.requires.1 _
    (stored_whole l.out l.to c.record_at.result.now _ c.copy_whole.ensures space ∙ ap (sets l.out l.to) c.record_at.ensures)
