-- `assembly::put_points` meets its contract. Assumes nothing.
use Rattle.std.proofs.Common.{ℕ, ◌+◌, ◌-◌, ◌*◌, ◌≤◌, arith, ap, ◌∙◌, List, ◌++◌, length, take, drop, length-drop}
use Rattle.fields.specs.Bytes.{Bytes, join, zeros}
use Rattle.fields.proofs.StoreLaws.{tail_part}
use Rattle.lasfile.specs.HeaderFields.{record_length}
use Rattle.tally.specs.Tally.{tally_of}
use Rattle.release.specs.Assembly.{kept_in}
use Rattle.release.proofs.assembly.PointLaws.{kept_of_file, same_width, points_end, points_back}
use Rattle.release.proofs.assembly.put_points.Goals.{Start}
use Rattle.release.proofs.assembly.put_points.Goals as goal

-- the points begin in the output
reached : (c : Start) → let a = c.args in a.start + length (kept_in a.keeper.now a.file.now) * record_length a.file.now ≤ length a.out.now
reached c = let a = c.args in omega (arith, points_end a.keeper.now a.file.now a.start, c.requires)

-- the part of an output from a place on has the room behind that place
lent_room : (l : Bytes) (a n : ℕ) → a + n ≤ length l → n ≤ length (take (length l - a) (drop a l))
lent_room l a n h = rw (tail_part l a, length-drop) (omega arith)

pub slice_bounds-copy_points-count : goal.slice_bounds-copy_points-count
slice_bounds-copy_points-count c = omega (arith, reached (goal.at.slice_bounds-copy_points-count c).Start)

pub slice_bounds-copy_points-start : goal.slice_bounds-copy_points-start
slice_bounds-copy_points-start c = omega (arith, reached (goal.at.slice_bounds-copy_points-start c).Start)

pub copy_points-requires : goal.copy_points-requires
copy_points-requires c =
    let a = c.args in
    let of = c.of.ensures in
    rw (same_width a.keeper.now a.file.now c.of.result of.records of.format of.size)
    (lent_room a.out.now a.start _ (reached (goal.at.copy_points-requires c).Start))

pub returns : goal.returns
returns c =
    let a = c.args in
    let of = c.of.ensures in
    let made = c.copy_points.ensures in
    let lent = take (length a.out.now - a.start) (drop a.start a.out.now) in
    let points = kept_of_file a.keeper.now a.file.now c.of.result of.records of.format in (
      made.0 ∙ ap (tally_of c.of.result.format) points ∙ ap (λ (f : ℕ). tally_of f (kept_in a.keeper.now a.file.now)) of.format,
      points_back a.keeper.now a.file.now a.start a.out.now _
          (made.1 ∙ ap (λ (l : List Bytes). take (length lent) (join l ++ zeros (length lent))) points),
    )
