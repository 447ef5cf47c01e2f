-- Laws of a file that is written: what its header says of a tally, and that the header is stored over the records and
-- points.
-- Assumes nothing.
use mathlib.Core.Path.{◌≡◌, refl}
use Prim.Native.Nat.{ℕ}
use Rattle.release.specs.declared.kept_points.Keeper.{Keeper}
use lib.Seq.{sets}
use Rattle.fields.specs.Bytes.{Bytes}
use Rattle.lasfile.specs.Records.{records_bytes}
use Rattle.scaling.specs.Scaling.{scaling_of}
use Rattle.lasfile.specs.HeaderFields.{header_block, format}
use Rattle.publicpart.specs.Bounds.{bound_numbers}
use Rattle.publicpart.specs.Public.{carried_of, public_of}
use Rattle.publicpart.specs.Head.{Head}
use Rattle.tally.specs.declared.Tally.{Tally}
use Rattle.tally.specs.Bins.{bin_numbers}
use Rattle.tally.specs.Tally.{tally_of, tally_bounds}
use Rattle.release.specs.Heads.{head_with, head_bytes}
use Rattle.release.specs.Assembly.{kept_in, with_points, totals_of, written}

pub head_said : (s : Bytes) (t : Tally) (records start : ℕ) → ◌≡◌ {A = Head} (head_with s (totals_of s t records start)) (record {
  carried = carried_of s;
  offset = start;
  records = records;
  points = t.count;
  bins = bin_numbers t.bins;
  bounds = bound_numbers (tally_bounds t (scaling_of s));
})
unfolding head_with totals_of
head_said s t records start = refl

pub written_is : (sheet s : Bytes) (keeper : Keeper) (records start : ℕ) (out : Bytes)
    → written sheet s keeper records start out
    ≡ sets (with_points keeper s start (sets out header_block (records_bytes 2 (public_of sheet s).records))) 0
    (head_bytes s (totals_of s (tally_of (format s) (kept_in keeper s)) records start))
unfolding written
written_is sheet s keeper records start out = refl
