-- `run::Points::of` meets its contract. Assumes nothing.
use Rattle.std.proofs.Common.{◌≡◌, ◌∙◌, drop}
use Rattle.fields.proofs.ByteLaws.{from_place}
use Rattle.release.proofs.run.Points.of.Goals as goal

pub returns-clause-records : goal.returns-clause-records
returns-clause-records c =
    let s = c.args.file.now in
    let run : c.part_at-run.result.now ≡ drop c.point_offset.result s = c.part_at-run.ensures ∙ from_place s _ in
    c.new.ensures.records ∙ rw (run, c.point_offset.ensures.0, c.record_length.ensures.0, c.point_count.ensures.0)
