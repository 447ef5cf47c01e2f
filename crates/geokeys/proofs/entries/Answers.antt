-- `geokeys::entries` meets its contract. Assumes nothing.
use mathlib.Core.Path.{sym, ap, ◌∙◌}
use native.Mathlib.Omega.{arith}
use lib.ListN.{length}
use Rattle.geokeys.proofs.EntryLaws.{entries_are, length-entries}
use Rattle.geokeys.proofs.entries.Goals as goal

pub slice_bounds-result-end : goal.slice_bounds-result-end
slice_bounds-result-end c =
    let d = c.args.directory.now in
    let count = c.number_at-count.ensures.0 in
    let are = entries_are d _ _ _ count c.split_at.ensures.back c.as_chunks.ensures.front c.requires in
    count ∙ sym (ap length are ∙ length-entries d)

pub returns : goal.returns
returns c =
    let d = c.args.directory.now in
    let count = c.number_at-count.ensures in
    let are = entries_are d _ _ _ count.0 c.split_at.ensures.back c.as_chunks.ensures.front c.requires in
    (are, omega (arith, ap length are, length-entries d, count.0, count.1))
