-- A sound public part: it can be written and read back. The contents of a file that passes are sound, and so is what a
-- sheet leaves of something sound.
-- Assumes nothing.
use mathlib.Core.Path.{◌≡◌}
use Prim.Native.Nat.{◌^◌, ◌≤◌, ◌<◌}
use native.Mathlib.Omega.{arith}
use lib.ListN.{length, drop, length-drop}
use lib.Dec.{T}
use Rattle.fields.specs.Lists.{All}
use Rattle.fields.specs.Bytes.{Bytes, AllBytes}
use Rattle.fields.proofs.ListLaws.{All-kept, total_kept, length-kept}
use Rattle.fields.proofs.ByteLaws.{num-part-lt, length_part, length-pieces, pieces_width}
use Rattle.fields.specs.Text.{Held}
use Rattle.fields.proofs.TextLaws.{held}
use Rattle.points.specs.Formats.{format_size}
use Rattle.lasfile.specs.Records.{walk_end, written_length, SoundRecord}
use Rattle.lasfile.proofs.vlr.RecordLaws.{walk_sound, walk-total, length-walk}
use Rattle.scaling.specs.Scaling.{scaling_in, good_scaling}
use Rattle.scaling.proofs.ScalingLaws.{scaling_in_lem}
use Rattle.lasfile.specs.HeaderFields.{header_size, point_offset, record_count, record_length, point_count}
use Rattle.lasfile.proofs.header.FieldLaws.{offset_low, records_low, length_low, count_low}
use Rattle.lasfile.specs.Passed.{Passed}
use Rattle.lasfile.proofs.Passed.{records_end_lem}
use Rattle.sheet.specs.Keeping.{keeps_point}
use Rattle.publicpart.specs.Public.{Carried, Public, carried_of, contents, restrict, public_of, sheet_keeps}
use Rattle.publicpart.specs.Render.{new_offset}
use Rattle.publicpart.proofs.PublicLaws.{public_is}

pub record SoundCarried (c : Carried) : Type 0 where
  pub ids : length c.ids ≡ 20
  pub system : Held 32 c.system
  pub software : Held 32 c.software
  pub day : c.day < 256 ^ 2
  pub year : c.year < 256 ^ 2
  pub format : c.format ≤ 3
  pub record_length : c.record_length < 256 ^ 2
  pub record_low : format_size c.format ≤ c.record_length
  pub scaling : length c.scaling ≡ 48
  pub scaled : T (good_scaling (scaling_in c.scaling))

pub record Sound (p : Public) : Type 0 where
  pub carried : SoundCarried p.carried
  pub records : All (SoundRecord 2) p.records
  pub record_count : length p.records < 256 ^ 4
  pub offset : new_offset p < 256 ^ 4
  pub points : All (λ b. length b ≡ p.carried.record_length) p.points
  pub point_count : length p.points < 256 ^ 4

module _ (s : Bytes) (bytes : AllBytes s) (p : Passed s) where
  sound_carried : SoundCarried (carried_of s)
  unfolding carried_of
  sound_carried =
      record {
        ids = length_part 4 20 s (omega arith);
        system = held 26 32 s;
        software = held 58 32 s;
        day = num-part-lt 90 2 s bytes;
        year = num-part-lt 92 2 s bytes;
        format = p.formatted;
        record_length = length_low s bytes;
        record_low = p.record_low;
        scaling = length_part 131 48 s (omega arith);
        scaled = rw (← scaling_in_lem s) p.scaled;
      }

  inside : walk_end 2 (record_count s) (header_size s) s ≤ length s
  inside = omega (arith, records_end_lem s)

  pub sound : Sound (contents s)
  unfolding contents carried_of new_offset
  sound =
      record {
        carried = sound_carried;
        records = walk_sound 2 s bytes (record_count s) (header_size s) inside;
        record_count = omega (arith, length-walk 2 s bytes (record_count s) (header_size s), records_low s bytes);
        offset = omega (arith, walk-total 2 s bytes (record_count s) (header_size s) inside, records_end_lem s, offset_low s bytes);
        points = pieces_width (point_count s) (record_length s) (drop (point_offset s) s) (simp length-drop (omega arith));
        point_count = omega (arith, length-pieces (point_count s) (record_length s) (drop (point_offset s) s), count_low s bytes);
      }

pub sound_restrict : (sheet : Bytes) (p : Public) → Sound p → Sound (restrict sheet p)
unfolding restrict new_offset
sound_restrict sheet p h =
    record {
      carried = h.carried;
      records = All-kept (SoundRecord 2) (sheet_keeps sheet) p.records h.records;
      record_count = omega (arith, length-kept (sheet_keeps sheet) p.records, h.record_count);
      offset = omega (arith, total_kept (written_length 2) (sheet_keeps sheet) p.records, h.offset);
      points = All-kept (λ b. length b ≡ p.carried.record_length) (keeps_point sheet p.carried.format) p.points h.points;
      point_count = omega (arith, length-kept (keeps_point sheet p.carried.format) p.points, h.point_count);
    }

-- the public part of a file that passes
pub sound_public : (sheet s : Bytes) → AllBytes s → Passed s → Sound (public_of sheet s)
sound_public sheet s bytes p = rw (public_is sheet s) (sound_restrict sheet (contents s) (sound s bytes p))
