-- `vlrs::copy_records` meets its contract. Assumes nothing.
use mathlib.Core.Path.{sym, ◌∙◌}
use native.Mathlib.Omega.{arith}
use Rattle.lasfile.proofs.vlr.PlacedLaws.{length-placed}
use Rattle.release.proofs.vlrs.KeptLaws.{copying_begins, copying_kept, copying_past, copying_ends}
use Rattle.release.proofs.vlrs.copy_records.Goals as goal

pub loop-vlr-init : goal.loop-vlr-init
loop-vlr-init c =
    let it = c.new-vlr-items.result in
    rw c.into_iter-vlr-iterator.ensures.into_iter_gives
    (copying_begins _ _ _ _ c.new-vlr-items.ensures (rw length-placed (omega (arith, it.in_range))))

pub loop-vlr-preserved-then-keeps : goal.loop-vlr-preserved-then-keeps
loop-vlr-preserved-then-keeps c =
    let put = c.put_record_at-to.ensures in
    copying_kept _ _ _ _ _ _ _ _ c.in-Some.ensures.steps _ c.loop-vlr.invariant _ put.0 put.1 _ put.2 (sym c.keeps.ensures ∙ c.if-keeps.true)

pub loop-vlr-preserved : goal.loop-vlr-preserved
loop-vlr-preserved c = copying_past _ _ _ _ _ _ _ _ c.in-Some.ensures.steps _ c.loop-vlr.invariant (sym c.keeps.ensures ∙ c.if-keeps.false)

pub returns : goal.returns
returns c = copying_ends _ _ _ _ _ _ c.in-None.ensures.steps.0 c.loop-vlr.invariant
