-- `box_index::Axis::mark_cells` meets its contract. Assumes nothing.
use Rattle.std.proofs.Common.{rules, arith}
use mathlib.Core.Path.{◌∙◌}
use lib.ListN.{length-set}
use Rattle.release.proofs.box_index.BitLaws.{shifted}
use Rattle.release.proofs.box_index.MarkLaws.{grown_none, mark_next}
use Rattle.release.proofs.box_index.Axis.mark_cells.Goals as goal

pub loop-k-init : goal.loop-k-init
loop-k-init c = ((grown_none _, λ m low high. absurd (omega (arith, low, high))), search rules)

pub loop-k-preserved : goal.loop-k-preserved
loop-k-preserved c =
    let a = c.args in
    let l = c.loop-k in (
      mark_next l.self l.k a.j _ (omega (arith, c.requires.1)) l.invariant.1 (shifted a.j c.requires.0) a.first a.self.now l.invariant.0.0 l.invariant.0.1,
      length-set l.self.cells l.k _ ∙ l.invariant.1,
    )

-- no cell is left
pub returns : goal.returns
returns c =
    let l = c.loop-k in
    (l.invariant.0.0, λ k low high. l.invariant.0.1 k low (omega (arith, high, c.loop-k-test.false)))

-- the last one was marked
pub returns-2 : goal.returns-2
returns-2 c =
    let a = c.args in
    let l = c.loop-k in
    let all = mark_next l.self l.k a.j _ (omega (arith, c.requires.1)) l.invariant.1 (shifted a.j c.requires.0) a.first a.self.now l.invariant.0.0 l.invariant.0.1 in
    (all.0, λ k low high. all.1 k low (omega (arith, high)))
