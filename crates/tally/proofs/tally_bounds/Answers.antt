-- `tally::tally_bounds` meets its contract. Assumes nothing.
use mathlib.Core.Path.{sym, ap, ◌∙◌}
use mathlib.Core.Bool.{Bool}
use borrow.Author.Tests.{eq-eqb, ne_eqb}
use Rattle.scaling.specs.Scaling.{bounds_of}
use Rattle.tally.specs.Tally.{tally_bounds, bounds_unless, zero_bounds}
use Rattle.tally.proofs.tally_bounds.Goals as goal

pub returns-then-t-eq0 : goal.returns-then-t-eq0
unfolding tally_bounds bounds_unless zero_bounds
returns-then-t-eq0 c =
    let a = c.args in
    let d = c.default.ensures in
    (λ i. record {
      max_x = d.0 i;
      min_x = d.1.0 i;
      max_y = d.1.1.0 i;
      min_y = d.1.1.1.0 i;
      max_z = d.1.1.1.1.0 i;
      min_z = d.1.1.1.1.1 i;
    })
    ∙ sym (ap (λ (b : Bool). bounds_unless b (bounds_of a.s a.t.extremes)) (eq-eqb a.t.count 0 c.if-t-eq0.true))

pub returns : goal.returns
unfolding tally_bounds bounds_unless
returns c =
    let a = c.args in
    c.bounds_of.ensures ∙ sym (ap (λ (b : Bool). bounds_unless b (bounds_of a.s a.t.extremes)) (ne_eqb a.t.count 0 c.if-t-eq0.false))
