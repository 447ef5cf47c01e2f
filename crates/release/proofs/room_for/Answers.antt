-- `room_for` meets its contract. Assumes nothing.
use mathlib.Core.Path.{◌≡◌, ◌∙◌}
use Prim.Native.Nat.{◌+◌, ◌*◌, ◌^◌, ◌<◌}
use native.Mathlib.Omega.{arith}
use Rattle.lasfile.specs.HeaderFields.{point_count, record_length}
use Rattle.release.specs.Assembly.{end_of_points}
use Rattle.release.proofs.assembly.PointLaws.{points_end, end_most, asked_most, asked_counted}
use Rattle.release.proofs.room_for.Goals.{After-count_kept, After-point_count-count}
use Rattle.release.proofs.room_for.Goals as goal

-- all the points of the file, as they are read off it
most_is : (c : After-point_count-count)
    → let a = c.args in
    a.start + c.point_count-count.result * c.record_length-record_length.result ≡ a.start + point_count a.file.now * record_length a.file.now
most_is c = rw (c.point_count-count.ensures.0, c.record_length-record_length.ensures.0)

pub overflow_mul-most : goal.overflow_mul-most
overflow_mul-most c = omega (arith, most_is c, c.requires)

pub overflow_add-most : goal.overflow_add-most
overflow_add-most c = omega (arith, most_is c, c.requires)

pub returns-then-most-room : goal.returns-then-most-room
returns-then-most-room c =
    let a = c.args in
    most_is (goal.at.returns-then-most-room c).After-point_count-count ∙ asked_most a.keeper.now a.file.now a.start a.room (omega (arith, most_is (goal.at.returns-then-most-room c).After-point_count-count, c.if-most-room.true))

-- the kept ones, which are counted
end_is : (c : After-count_kept)
    → let a = c.args in
    a.start + c.count_kept.result * c.record_length-record_length.result ≡ end_of_points a.keeper.now a.file.now a.start
end_is c =
    let a = c.args in
    rw (points_end a.keeper.now a.file.now a.start, c.count_kept.ensures, c.record_length-record_length.ensures.0)

small : (c : After-count_kept) → let a = c.args in end_of_points a.keeper.now a.file.now a.start < 2 ^ 64
small c = let a = c.args in omega (arith, end_most a.keeper.now a.file.now a.start, c.requires)

pub overflow_mul-result : goal.overflow_mul-result
overflow_mul-result c = omega (arith, end_is c, small c)

pub overflow_add-result : goal.overflow_add-result
overflow_add-result c = omega (arith, end_is c, small c)

pub returns : goal.returns
returns c =
    let a = c.args in
    end_is c ∙ asked_counted a.keeper.now a.file.now a.start a.room (omega (arith, most_is (goal.at.returns c).After-point_count-count, c.if-most-room.false))
