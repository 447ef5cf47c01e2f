-- `geokeys::find_entry` meets its contract. Assumes nothing.
use mathlib.Core.Path.{sym, ◌∙◌}
use Rattle.geokeys.specs.Places.{entry_in}
use Rattle.geokeys.proofs.EntryLaws.{entry_found, entry_passed, entries_passed}
use Rattle.geokeys.proofs.find_entry.Goals as goal

pub returns-then-number_at-key : goal.returns-then-number_at-key
unfolding entry_in
returns-then-number_at-key c =
    entry_found _ _ _ c.loop-entry-test.true (sym c.number_at.ensures.0 ∙ c.if-number_at-key.true) ∙ c.loop-entry.invariant.same

pub loop-entry-preserved : goal.loop-entry-preserved
loop-entry-preserved c =
    record {
      same = entry_passed _ _ _ c.loop-entry-test.true (λ e. c.if-number_at-key.false (c.number_at.ensures.0 ∙ e)) ∙ c.loop-entry.invariant.same;
    }

pub returns : goal.returns
unfolding entry_in
returns c = entries_passed _ _ _ c.loop-entry-test.false ∙ c.loop-entry.invariant.same
