-- A released file is no longer than its source: what a sheet leaves is no longer, and the contents of a file fit into
-- it.
-- Assumes nothing.
use Prim.Native.Nat.{◌+◌, ◌*◌, ◌≤◌}
use native.Mathlib.Nat.{mul-le-mul_right}
use native.Mathlib.Omega.{arith}
use lib.ListN.{length, drop}
use Rattle.fields.specs.Bytes.{Bytes, AllBytes}
use Rattle.fields.proofs.ListLaws.{total_kept, length-kept}
use Rattle.fields.proofs.ByteLaws.{length-pieces}
use Rattle.lasfile.specs.Records.{walk_end, written_length}
use Rattle.lasfile.proofs.vlr.RecordLaws.{walk-total}
use Rattle.lasfile.specs.HeaderFields.{header_size, point_offset, record_count, record_length, point_count}
use Rattle.lasfile.specs.Passed.{Passed}
use Rattle.lasfile.proofs.Passed.{records_end_lem}
use Rattle.sheet.specs.Keeping.{keeps_point}
use Rattle.publicpart.specs.Public.{Public, carried_of, contents, restrict, public_of, sheet_keeps}
use Rattle.publicpart.specs.Render.{new_offset, totals}
use Rattle.publicpart.proofs.PublicLaws.{public_is}

restrict_shorter : (sheet : Bytes) (p : Public) → (totals (restrict sheet p)).file_length ≤ (totals p).file_length
unfolding totals restrict new_offset
restrict_shorter sheet p =
    omega (
      arith,
      total_kept (written_length 2) (sheet_keeps sheet) p.records,
      mul-le-mul_right p.carried.record_length (length-kept (keeps_point sheet p.carried.format) p.points),
    )

restrict_offset : (sheet : Bytes) (p : Public) → new_offset (restrict sheet p) ≤ new_offset p
unfolding restrict new_offset
restrict_offset sheet p = omega (arith, total_kept (written_length 2) (sheet_keeps sheet) p.records)

module _ (s : Bytes) (bytes : AllBytes s) (p : Passed s) where
  inside : walk_end 2 (record_count s) (header_size s) s ≤ length s
  inside = omega (arith, records_end_lem s)

  all_points : new_offset (contents s) + point_count s * record_length s ≤ length s
  unfolding contents new_offset
  all_points = omega (arith, walk-total 2 s bytes (record_count s) (header_size s) inside, records_end_lem s, p.walked, p.header_low, p.pointed)

  contents_fit : (totals (contents s)).file_length ≤ length s
  unfolding totals contents carried_of
  contents_fit = rw (length-pieces (point_count s) (record_length s) (drop (point_offset s) s)) all_points

  pub no_longer : (sheet : Bytes) → (totals (public_of sheet s)).file_length ≤ length s
  no_longer sheet = rw (public_is sheet s) (omega (arith, restrict_shorter sheet (contents s), contents_fit))

  -- nor would it be with all the points of its source
  pub room_for_all : (sheet : Bytes) → new_offset (public_of sheet s) + point_count s * record_length s ≤ length s
  room_for_all sheet = rw (public_is sheet s) (omega (arith, restrict_offset sheet (contents s), all_points))
