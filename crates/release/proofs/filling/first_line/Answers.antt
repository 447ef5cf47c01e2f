-- `filling::first_line` meets its contract. Assumes nothing.
use mathlib.Core.Path.{refl}
use mathlib.Core.Bool.{false}
use Rattle.release.specs.declared.filling.Filling.{Filling}
use Rattle.release.specs.Filling.{Begun}
use Rattle.release.proofs.filling.LineLaws.{stands, begins, begun_with_line}
use Rattle.release.proofs.filling.first_line.Goals.{After-record_length}
use Rattle.release.proofs.filling.first_line.Goals as goal

-- what the header says
abbrev begun : After-record_length → Filling
begun c =
    record {
      more = false;
      k = 0;
      place = 0;
      length = 0;
      n = c.args.n;
      records = c.record_count.result;
      record_at = c.header_size.result;
      points = c.point_count.result;
      point_at = c.point_offset.result;
      format = c.format.result;
      record_length = c.record_length.result;
    }

has_begun : (c : After-record_length) → let a = c.args in Begun a.file.now a.n (begun c)
has_begun c =
    let a = c.args in
    begins a.file.now a.n (begun c) refl refl c.record_count.ensures c.header_size.ensures
    c.point_count.ensures c.point_offset.ensures c.format.ensures.0 c.record_length.ensures

pub with_line-requires : goal.with_line-requires
with_line-requires c = (has_begun c).ready

pub returns : goal.returns
returns c =
    let a = c.args in
    rw c.with_line.ensures (begun_with_line a.file.now a.n (begun (goal.at.returns c).After-record_length) (has_begun (goal.at.returns c).After-record_length), stands a.file.now (begun (goal.at.returns c).After-record_length))
