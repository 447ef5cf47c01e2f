-- `writing::write_lines` meets its contract. Assumes nothing.
use mathlib.Core.Path.{◌∙◌}
use native.Mathlib.Omega.{arith}
use Rattle.release.proofs.writing.ItemLaws.{length-items, in_two}
use Rattle.release.proofs.writing.write_lines.Goals as goal

pub write_records-end-requires : goal.write_records-end-requires
write_records-end-requires c =
    let a = c.args in
    rw c.split_at.ensures.front (omega (arith, c.requires.within, length-items a.file.now a.list.now a.released))

pub write_points-requires : goal.write_points-requires
write_points-requires c =
    let a = c.args in
    rw (c.split_at.ensures.back, c.write_records-end.ensures.0, c.split_at.ensures.front)
    (omega (arith, c.requires.within, c.write_records-end.auto.out, length-items a.file.now a.list.now a.released))

pub returns : goal.returns
returns c =
    let a = c.args in
    c.write_points.ensures
    ∙ rw (c.write_records-end.ensures.1, c.write_records-end.ensures.0, c.split_at.ensures.front, c.split_at.ensures.back)
    (in_two a.file.now a.list.now a.released a.out.now 227)
