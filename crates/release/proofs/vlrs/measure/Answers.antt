-- `vlrs::measure` meets its contract. Assumes nothing.
use mathlib.Core.Path.{sym, ◌∙◌}
use native.Mathlib.Omega.{arith}
use Rattle.lasfile.proofs.vlr.PlacedLaws.{length-placed}
use Rattle.release.proofs.vlrs.KeptLaws.{measuring_begins, measuring_kept, measuring_past, measuring_ends}
use Rattle.release.proofs.vlrs.measure.Goals as goal

pub loop-vlr-init : goal.loop-vlr-init
loop-vlr-init c =
    let it = c.new-vlr-items.result in
    rw c.into_iter-vlr-iterator.ensures.into_iter_gives
    (measuring_begins _ _ _ c.new-vlr-items.ensures (rw length-placed (omega (arith, it.in_range))))

pub loop-vlr-preserved-then-keeps : goal.loop-vlr-preserved-then-keeps
loop-vlr-preserved-then-keeps c =
    let long = c.written_length-end.ensures in
    measuring_kept _ _ _ _ _ _ c.in-Some.ensures.steps _ _ c.loop-vlr.invariant _ long.0 long.1 (sym c.keeps.ensures ∙ c.if-keeps.true)

pub loop-vlr-preserved : goal.loop-vlr-preserved
loop-vlr-preserved c = measuring_past _ _ _ _ _ _ c.in-Some.ensures.steps _ _ c.loop-vlr.invariant (sym c.keeps.ensures ∙ c.if-keeps.false)

pub returns : goal.returns
returns c = measuring_ends _ _ _ _ _ c.in-None.ensures.steps.0 c.loop-vlr.invariant
