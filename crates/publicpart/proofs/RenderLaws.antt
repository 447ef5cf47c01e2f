-- Laws of the released file: its parts, where its points start, how long it is, and what its header says.
-- Assumes nothing.
use mathlib.Core.Path.{◌≡◌, refl}
use Prim.Native.Nat.{◌+◌, ◌*◌}
use mathlib.Core.List.{◌++◌, append_assoc}
use lib.ListN.{length, length-append}
use Rattle.fields.specs.Lists.{total}
use Rattle.fields.specs.Bytes.{Bytes, join}
use Rattle.lasfile.specs.Records.{written_length, records_bytes}
use Rattle.scaling.specs.Scaling.{scaling_in}
use Rattle.lasfile.specs.HeaderFields.{header_block}
use Rattle.publicpart.specs.Bounds.{bins, bounds}
use Rattle.publicpart.specs.Public.{Public}
use Rattle.publicpart.specs.Head.{Head, head_fields}
use Rattle.publicpart.specs.Render.{new_offset, head_of, render, totals}

module _ (p : Public) where
  pub new_offset_lem : new_offset p ≡ header_block + total (written_length 2) p.records
  unfolding new_offset
  new_offset_lem = refl

  pub total_length : (totals p).file_length ≡ new_offset p + length p.points * p.carried.record_length
  unfolding totals
  total_length = refl

  -- header, records, points, and what stands behind them
  pub render_parts : (rest : Bytes) → render p ++ rest ≡ join (head_fields (head_of p)) ++ (records_bytes 2 p.records ++ (join p.points ++ rest))
  unfolding render
  render_parts rest = simp append_assoc

  pub length_parts : length (render p) ≡ length (join (head_fields (head_of p))) + (length (records_bytes 2 p.records) + length (join p.points))
  unfolding render
  length_parts = simp length-append

  -- a header that says this is the released file's
  pub head_of_lem : (h : Head) → h.carried ≡ p.carried → h.offset ≡ new_offset p → h.records ≡ length p.records → h.points ≡ length p.points
      → h.bins ≡ bins 5 p.carried.format p.points → h.bounds ≡ bounds (scaling_in p.carried.scaling) p.points → h ≡ head_of p
  unfolding head_of
  head_of_lem h carried offset records points bins bounds =
      λ i. record { carried = carried i; offset = offset i; records = records i; points = points i; bins = bins i; bounds = bounds i }
