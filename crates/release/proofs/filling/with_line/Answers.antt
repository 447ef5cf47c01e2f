-- `filling::with_line` meets its contract. Assumes nothing.
use native.Mathlib.Omega.{arith}
use mathlib.Core.Path.{sym}
use Rattle.publicpart.specs.Cutting.{payload_line}
use Rattle.release.proofs.filling.LineLaws.{at_record, at_point}
use Rattle.release.proofs.filling.with_line.Goals as goal

pub overflow_add-u : goal.overflow_add-u
overflow_add-u c = omega (arith, c.requires.records_low)

pub returns-then-t-gt0 : goal.returns-then-t-gt0
unfolding payload_line
returns-then-t-gt0 c =
    let t = c.args.t in
    rw (at_record c.args.file.now t.records t.record_at t.point_at c.if-t-gt0.true, c.payload_length_at.ensures.0)

pub returns : goal.returns
returns c =
    let t = c.args.t in
    rw (at_point c.args.file.now t.records t.record_at t.point_at c.if-t-gt0.false, sym c.requires.size)
