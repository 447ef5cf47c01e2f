-- `filling::next_line` meets its contract. Assumes nothing.
use native.Mathlib.Omega.{arith}
use mathlib.Core.List.{[]}
use Rattle.release.proofs.filling.LineLaws.{stands, looked_with_line}
use Rattle.release.proofs.filling.next_line.Goals as goal

pub past_record-requires : goal.past_record-requires
past_record-requires c = let pre = c.requires in (pre.0, pre.1, c.if-t-gt0.true)

pub with_line-requires : goal.with_line-requires
with_line-requires c = (c.past_record.ensures c.args.keeper.now).ready

pub returns-then-t-gt0 : goal.returns-then-t-gt0
returns-then-t-gt0 c =
    let a = c.args in
    rw c.with_line.ensures
    (looked_with_line a.file.now a.sheet.now a.keeper.now a.t c.past_record.result (c.past_record.ensures a.keeper.now), stands a.file.now c.past_record.result)

pub past_point-requires : goal.past_point-requires
past_point-requires c =
    let pre = c.requires in
    let none = c.if-t-gt0.false in
    (pre.0, pre.1, omega (arith, none), omega (arith, none, pre.2))

pub with_line-requires-2 : goal.with_line-requires-2
with_line-requires-2 c = (c.past_point.ensures []).ready

pub returns : goal.returns
returns c =
    let a = c.args in
    rw c.with_line-2.ensures
    (looked_with_line a.file.now a.sheet.now a.keeper.now a.t c.past_point.result (c.past_point.ensures a.sheet.now), stands a.file.now c.past_point.result)
