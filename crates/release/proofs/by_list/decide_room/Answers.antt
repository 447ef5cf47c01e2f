-- `by_list::decide_room` meets its contract. Assumes nothing.
use Rattle.lasfile.proofs.Passed.{passed}
use Rattle.publicpart.proofs.Back.{length-render}
use Rattle.publicpart.proofs.Sound.{sound_public}
use Rattle.publicpart.proofs.LengthLaws.{no_longer}
use mathlib.Core.Path.{◌≡◌, sym, ap, ◌∙◌}
use Prim.Native.Nat.{◌+◌, ◌-◌, ◌*◌, ◌^◌, ◌<◌}
use native.Mathlib.Omega.{arith}
use lib.ListN.{length}
use Rattle.fields.specs.Bytes.{AllBytes}
use Rattle.publicpart.specs.Public.{public_of}
use Rattle.publicpart.specs.Render.{new_offset, render}
use Rattle.publicpart.specs.Release.{Released, Short}
use Rattle.publicpart.proofs.RenderLaws.{new_offset_lem}
use Rattle.publicpart.proofs.AnswerLaws.{room_short, room_long}
use Rattle.release.proofs.AssemblyLaws.{render-length}
use Rattle.release.specs.declared.vlrs.KeptRecords.{KeptRecords}
use Rattle.release.specs.KeptRecords.{measured}
use Rattle.release.proofs.by_list.decide_room.Goals.{After-measure-kept, After-record_length}
use Rattle.release.proofs.by_list.decide_room.Goals as goal

-- what was measured is the public part's
counts : (c : After-measure-kept)
    → let a = c.args in
    let p = public_of a.sheet.now a.file.now in
    (c.measure-kept.result.count ≡ length p.records) × (c.measure-kept.result.end ≡ new_offset p) × (a.lines - c.measure-kept.result.count ≡ length p.points)
unfolding measured
counts c =
    let a = c.args in
    let p = public_of a.sheet.now a.file.now in
    let records : c.measure-kept.result.count ≡ length p.records = ap (λ (k : KeptRecords). k.count) c.measure-kept.ensures in
    (records, ap (λ (k : KeptRecords). k.end) c.measure-kept.ensures ∙ sym (new_offset_lem p), omega (arith, records, c.requires.1))

-- the length that is needed
length_is : (c : After-record_length)
    → let a = c.args in
    c.measure-kept.result.end + (a.lines - c.measure-kept.result.count) * c.record_length.result ≡ length (render (public_of a.sheet.now a.file.now))
length_is c =
    let a = c.args in
    let bytes : AllBytes a.file.now = λ i. omega (arith, c.type_inv.file i) in
    rw ((counts (goal.at.overflow_mul-needed c).After-measure-kept).1, (counts (goal.at.overflow_mul-needed c).After-measure-kept).2, c.record_length.ensures.0) (sym (render-length a.sheet.now a.file.now bytes c.requires.0))

small : (c : After-record_length)
    → let a = c.args in
    length (render (public_of a.sheet.now a.file.now)) < 2 ^ 63
small c =
    let a = c.args in
    let bytes : AllBytes a.file.now = λ i. omega (arith, c.type_inv.file i) in
    let p = passed a.file.now c.requires.0 in
    omega (arith, length-render (public_of a.sheet.now a.file.now) (sound_public a.sheet.now a.file.now bytes p), no_longer a.file.now bytes p a.sheet.now, c.well_formed)

pub overflow_sub-points : goal.overflow_sub-points
overflow_sub-points c = omega (arith, (counts c).0, c.requires.1)

pub overflow_mul-needed : goal.overflow_mul-needed
overflow_mul-needed c = omega (arith, length_is c, small c)

pub overflow_add-needed : goal.overflow_add-needed
overflow_add-needed c = omega (arith, length_is (goal.at.overflow_add-needed c).After-record_length, small (goal.at.overflow_add-needed c).After-record_length)

pub returns-then-room-needed : goal.returns-then-room-needed
returns-then-room-needed c out l =
    let a = c.args in
    ap Short (length_is (goal.at.returns-then-room-needed c).After-record_length) ∙ sym (ap (λ o. o.0) (room_short (public_of a.sheet.now a.file.now) out (omega (arith, l, length_is (goal.at.returns-then-room-needed c).After-record_length, c.if-room-needed.true))))

pub returns : goal.returns
returns c out l =
    let a = c.args in
    let m = counts (goal.at.returns c).After-measure-kept in
    let p = public_of a.sheet.now a.file.now in
    (λ i. Released (length_is (goal.at.returns c).After-record_length i) (m.2 i) (m.0 i)) ∙ sym (ap (λ o. o.0) (room_long p out (omega (arith, l, length_is (goal.at.returns c).After-record_length, c.if-room-needed.false))))
