-- A released file as it is put together in the output.
-- Assumes nothing.
use Rattle.std.specs.Prelude.{ℕ, ◌+◌, ◌-◌, ◌*◌, ◌≤◌, cond, List, ◌++◌, length, take, drop, leb}
use Rattle.std.proofs.lemmas.List.Edits.{sets}
use Rattle.fields.specs.Bytes.{Bytes, join, zeros}
use Rattle.lasfile.specs.Records.{records_bytes}
use Rattle.scaling.specs.Scaling.{scaling_of}
use Rattle.lasfile.specs.HeaderFields.{header_block, point_offset, format, record_length, point_count}
use Rattle.sheet.specs.Boxes.{keeps_by}
use Rattle.publicpart.specs.Public.{public_of}
use Rattle.tally.specs.declared.Tally.{Tally}
use Rattle.tally.specs.Tally.{tally_of, tally_bounds}
use Rattle.release.specs.declared.kept_points.Keeper.{Keeper}
use Rattle.release.specs.declared.head.HeadTotals.{HeadTotals}
use Rattle.release.specs.Heads.{head_bytes}
use Rattle.release.specs.KeptPoints.{kept_points}

-- the points of a file that are kept
unfoldable pub kept_in : Keeper → Bytes → List Bytes
kept_in keeper s = kept_points (keeps_by keeper.table keeper.boxes (format s)) (point_count s) (record_length s) (drop (point_offset s) s)

-- the length of an output that ends with these points, where they begin at a place
unfoldable pub end_of_points : Keeper → Bytes → ℕ → ℕ
end_of_points keeper s start = start + length (kept_in keeper s) * record_length s

abbrev pub RoomFor : Keeper → Bytes → ℕ → ℕ → Type 0
RoomFor keeper s start room = end_of_points keeper s start ≤ room

-- the room that is asked for: that of all the points of a file, where there is as much, and they need not be counted;
-- else that of the kept ones
unfoldable pub room_asked : Keeper → Bytes → ℕ → ℕ → ℕ
room_asked keeper s start room =
    let most : ℕ = start + point_count s * record_length s in cond (leb most room) most (end_of_points keeper s start)

-- the kept records directly after the header
abbrev pub with_records : Bytes → Bytes → Bytes → Bytes
with_records sheet s out = sets out header_block (records_bytes 2 (public_of sheet s).records)

-- from a place on the kept points, and zeros behind them to the end
unfoldable pub with_points : Keeper → Bytes → ℕ → Bytes → Bytes
with_points keeper s start out =
    take start out ++ take (length out - start) (join (kept_in keeper s) ++ zeros (length out - start))

-- what the header says of a tally, of a number of records and of the new point offset
unfoldable pub totals_of : Bytes → Tally → ℕ → ℕ → HeadTotals
totals_of s t records start =
    record {
      offset = start;
      records = records;
      points = t.count;
      bins = t.bins;
      bounds = tally_bounds t (scaling_of s);
    }

-- kept records, kept points from the new point offset on with zeros behind them, and the header of these
unfoldable pub written : Bytes → Bytes → Keeper → ℕ → ℕ → Bytes → Bytes
written sheet s keeper records start out =
    sets (with_points keeper s start (with_records sheet s out)) 0
    (head_bytes s (totals_of s (tally_of (format s) (kept_in keeper s)) records start))
