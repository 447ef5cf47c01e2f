-- `run::Points::new` meets its contract. Assumes nothing.
use Rattle.std.proofs.Common.{sym, ◌∙◌, length}
use Rattle.fields.specs.Bytes.{pieces}
use Rattle.points.proofs.raw.RunLaws.{InRun, in_run_lem, points_held, points_none}
use Rattle.release.proofs.run.Points.new.Goals.{Then-holds}
use Rattle.release.proofs.run.Points.new.Goals as goal

-- the run holds the records
held : (c : Then-holds) → let a = c.args in InRun a.count a.record_length (length a.run.now)
held c = in_run_lem _ _ _ (sym c.holds.ensures ∙ c.if-holds.true)

pub invariant_of-result : goal.invariant_of-result
invariant_of-result c = let h = held (goal.at.invariant_of-result c).Then-holds in record { long = h.long; few = h.few; held = h.within }

pub returns-then-holds-clause-records : goal.returns-then-holds-clause-records
returns-then-holds-clause-records c = let a = c.args in sym (points_held a.count a.record_length a.run.now (held (goal.at.returns-then-holds-clause-records c).Then-holds))

pub returns-clause-records : goal.returns-clause-records
unfolding pieces
returns-clause-records c = let a = c.args in sym (points_none a.count a.record_length a.run.now (sym c.holds.ensures ∙ c.if-holds.false))
