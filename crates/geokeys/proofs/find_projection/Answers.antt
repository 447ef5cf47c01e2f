-- `geokeys::find_projection` meets its contract. Assumes nothing.
use mathlib.Core.Path.{sym, ◌∙◌}
use Rattle.lasfile.proofs.vlr.PlacedLaws.{place_low}
use Rattle.geokeys.proofs.PlaceLaws.{among_here, among_later, among_none}
use Rattle.geokeys.proofs.find_projection.Goals as goal

pub returns-then-is_projection : goal.returns-then-is_projection
returns-then-is_projection c =
    let it = c.loop-vlr.vlr-iterator in (
      among_here _ _ _ _ _ _ c.in-Some.ensures.steps c.loop-vlr.invariant.same (sym c.is_projection.ensures ∙ c.if-is_projection.true),
      place_low it.left it.place _ _ _ _ c.in-Some.ensures.steps it.in_range,
    )

pub loop-vlr-preserved : goal.loop-vlr-preserved
loop-vlr-preserved c =
    record {
      same =
          among_later _ _ _ _ _ _ c.in-Some.ensures.steps c.loop-vlr.invariant.same (sym c.is_projection.ensures ∙ c.if-is_projection.false);
    }

pub returns : goal.returns
returns c = (among_none _ _ _ c.in-None.ensures.steps.0 c.loop-vlr.invariant.same, tt)
