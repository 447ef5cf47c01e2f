-- `run::Points::record_at` meets its contract. Assumes nothing.
use Rattle.std.proofs.Common.{◌≡◌, ◌+◌, ◌-◌, arith}
use Rattle.fields.specs.Bytes.{part}
use Rattle.release.proofs.run.Points.record_at.Goals as goal

pub returns : goal.returns
unfolding part
returns c =
    let a = c.args in
    let e : a.at + a.self.record_length - a.at ≡ a.self.record_length = omega arith in
    rw e
