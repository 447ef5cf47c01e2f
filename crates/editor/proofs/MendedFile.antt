-- The mended file, read as a file: what it keeps, what it says of its points, that it passes, and that it stays as it
-- is when it is mended again.
-- Assumes nothing.
use mathlib.Core.Path.{◌≡◌, ◌∙◌}
use mathlib.Core.Logic.{inl, inr}
use Prim.Native.Nat.{ℕ, ◌+◌, ◌*◌, ◌≤◌}
use native.Mathlib.Omega.{arith}
use mathlib.Core.List.{List}
use lib.Dec.{lit≤}
use lib.ListN.{length, drop}
use lib.Seq.{sets}
use Rattle.fields.specs.Bytes.{Bytes, AllBytes, part, pieces, numbers_bytes}
use Rattle.fields.proofs.StoreLaws.{sets_same}
use Rattle.fields.proofs.arrays.NumberLaws.{length_numbers, numbers_part}
use Rattle.scaling.specs.Scaling.{scaling_of}
use Rattle.scaling.proofs.ScalingLaws.{scaling_in_lem}
use Rattle.lasfile.specs.Records.{walk}
use Rattle.lasfile.proofs.vlr.RecordLaws.{walk_end_same, walk_same}
use Rattle.lasfile.specs.HeaderFields.{header_block, header_size, point_offset, record_count, format, record_length, point_count}
use Rattle.lasfile.proofs.header.FieldLaws.{size_same, offset_same, records_same, format_same, length_same, count_written, count_low}
use Rattle.lasfile.specs.FileChecks.{records_end}
use Rattle.lasfile.specs.Passed.{PassedWith, Passed}
use Rattle.lasfile.proofs.Passed.{records_end_lem}
use Rattle.publicpart.specs.Public.{carried_of}
use Rattle.editor.specs.Mend.{whole_records, mended_count, mended_points, mended}
use Rattle.editor.proofs.MendLaws.{count_stated, count_room, points_are, counts, bits, six_counts, six_bounds, mended_is, length-mended, outside, behind, counts_in, bits_in}

module _ (s : Bytes) where
  abbrev t : Bytes
  t = mended s

  -- ---- fields that stay

  before : (a w : ℕ) → a + w ≤ 107 → part a w t ≡ part a w s
  before a w h = outside s a w (inl h) (inl (omega arith))

  between : part 131 48 t ≡ part 131 48 s
  between = outside s 131 48 (inr (lit≤ tt)) (inl (lit≤ tt))

  size_stays : header_size t ≡ header_size s
  size_stays = size_same t s (before 94 2 (lit≤ tt))

  offset_stays : point_offset t ≡ point_offset s
  offset_stays = offset_same t s (before 96 4 (lit≤ tt))

  records_stay : record_count t ≡ record_count s
  records_stay = records_same t s (before 100 4 (lit≤ tt))

  pub format_stays : format t ≡ format s
  format_stays = format_same t s (before 104 1 (lit≤ tt))

  pub length_stays : record_length t ≡ record_length s
  length_stays = length_same t s (before 105 2 (lit≤ tt))

  pub scaling_stays : scaling_of t ≡ scaling_of s
  scaling_stays = rw (scaling_in_lem t, scaling_in_lem s, between)

  pub carried_stays : carried_of t ≡ carried_of s
  unfolding carried_of
  carried_stays =
      rw (
        before 4 20 (lit≤ tt),
        before 26 32 (lit≤ tt),
        before 58 32 (lit≤ tt),
        before 90 2 (lit≤ tt),
        before 92 2 (lit≤ tt),
        format_stays,
        length_stays,
        between,
      )

  module _ (m : PassedWith 0 s) where
    end_stays : records_end t ≡ records_end s
    end_stays =
        rw (records_end_lem t, records_end_lem s, size_stays, records_stay)
        (walk_end_same 2 t s header_block (behind s) (record_count s) (header_size s) m.header_low)

    pub walk_stays : walk 2 (record_count t) (header_size t) t ≡ walk 2 (record_count s) (header_size s) s
    walk_stays = rw (size_stays, records_stay) (walk_same 2 t s header_block (behind s) (record_count s) (header_size s) m.header_low)

    run_stays : drop (point_offset t) t ≡ drop (point_offset s) s
    run_stays = rw offset_stays (behind s (point_offset s) (omega (arith, m.header_low, m.offset_low)))

    -- ---- what it says of its points

    module _ (bytes : AllBytes s) where
      pub count_is : point_count t ≡ mended_count s
      count_is =
          count_written t (mended_count s) (numbers_part t 107 4 0 (counts s) (counts_in s m.whole) (omega arith)) (omega (arith, count_stated s m, count_low s bytes))

      pub points_are_its : pieces (point_count t) (record_length t) (drop (point_offset t) t) ≡ mended_points s
      points_are_its = rw (count_is, length_stays, run_stays, points_are s)

      pub file_passes : Passed t
      file_passes =
          record {
            whole = omega (arith, length-mended s, m.whole);
            signed = before 0 4 (lit≤ tt) ∙ m.signed;
            versioned = before 24 2 (lit≤ tt) ∙ m.versioned;
            header_low = rw size_stays m.header_low;
            header_high = rw (size_stays, length-mended s) m.header_high;
            formatted = rw format_stays m.formatted;
            record_low = rw (format_stays, length_stays) m.record_low;
            offset_low = rw (size_stays, offset_stays) m.offset_low;
            offset_high = rw (offset_stays, length-mended s) m.offset_high;
            walked = rw (end_stays, offset_stays) m.walked;
            pointed = rw (offset_stays, count_is, length_stays, length-mended s) (omega (arith, count_room s m, m.offset_high));
            scaled = rw scaling_stays m.scaled;
          }

      -- ---- mending it again

      whole_again : whole_records t ≡ whole_records s
      unfolding whole_records
      whole_again = rw (length-mended s, offset_stays, length_stays)

      count_again : mended_count t ≡ mended_count s
      unfolding mended_count
      count_again = rw (count_is, whole_again) (omega arith)

      points_again : mended_points t ≡ mended_points s
      points_again = rw (points_are t, count_again, length_stays, run_stays, points_are s)

      counts_again : counts t ≡ counts s
      counts_again = rw (count_again, format_stays, points_again)

      bits_again : bits t ≡ bits s
      bits_again = rw (scaling_stays, points_again)

      -- numbers that stand at their place already
      stored_again : (at w : ℕ) (ns : List ℕ) → at + length ns * w ≤ length t → part at (length ns * w) t ≡ numbers_bytes w ns → sets t at (numbers_bytes w ns) ≡ t
      stored_again at w ns room are =
          let e : length (numbers_bytes w ns) ≡ length ns * w = length_numbers w ns in
          sets_same at (numbers_bytes w ns) t (omega (arith, e, room)) (rw e are)

      pub mended_again : mended t ≡ t
      mended_again =
          rw (
            mended_is t,
            counts_again,
            bits_again,
            stored_again 107 4 (counts s) (omega (arith, m.whole, length-mended s, six_counts s)) (counts_in s m.whole),
            stored_again 179 8 (bits s) (omega (arith, m.whole, length-mended s, six_bounds s)) (bits_in s m.whole),
          )
