-- `assembly::write` meets its contract. Assumes nothing.
use mathlib.Core.Path.{◌≡◌, ap, ◌∙◌}
use lib.ListN.{length}
use lib.Seq.{sets}
use Rattle.lasfile.specs.HeaderFields.{header_block, format}
use Rattle.lasfile.specs.Records.{records_bytes}
use Rattle.publicpart.specs.Public.{public_of}
use Rattle.tally.specs.declared.Tally.{Tally}
use Rattle.tally.proofs.TallyLaws.{tally_count}
use Rattle.release.specs.Assembly.{kept_in, written}
use Rattle.release.proofs.assembly.write.Goals as goal

pub returns : goal.returns
unfolding written
returns c =
    let a = c.args in
    let s = a.file.now in
    let points = c.put_points-tally in
    let recorded : c.copy_records.new.out ≡ sets a.out.now header_block (records_bytes 2 (public_of a.sheet.now s).records) = c.copy_records.ensures in
    let counted : points.result.count ≡ length (kept_in a.keeper.now s) = ap (λ (t : Tally). t.count) points.ensures.0 ∙ tally_count (format s) (kept_in a.keeper.now s) in
    (counted, c.put_head.ensures ∙ rw (c.totals_of.ensures, points.ensures.0, points.ensures.1, recorded))
