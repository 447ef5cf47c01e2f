-- What is written of a sound public part passes the file checks and has it for its contents, with zeros behind it or
-- without.
-- Assumes nothing.
use mathlib.Core.Path.{◌≡◌, ◌∙◌}
use Prim.Native.Nat.{ℕ, ◌+◌, ◌*◌, ◌≤◌, ◌<◌}
use mathlib.Core.List.{[], ◌++◌, append_assoc}
use native.Mathlib.Omega.{arith}
use lib.ListN.{length, get_or, drop, length-append, length-replicate}
use lib.Seq.{drop_at}
use lib.Dec.{lit<}
use Rattle.fields.specs.Bytes.{Bytes, part, num, zeros, join, start, pieces, numbers_bytes}
use Rattle.fields.specs.Text.{cut}
use Rattle.fields.proofs.ByteLaws.{num-bytes_of, pieces_back, length-join_pieces}
use Rattle.lasfile.specs.Records.{walk, records_bytes}
use Rattle.lasfile.proofs.vlr.RecordLaws.{walk_back, walk_end_back, length-records_bytes}
use Rattle.scaling.specs.Scaling.{scaling_in}
use Rattle.scaling.proofs.ScalingLaws.{scaling_in_lem}
use Rattle.lasfile.specs.HeaderFields.{header_block, header_size, point_offset, record_count, format, record_length, point_count}
use Rattle.lasfile.proofs.header.FieldLaws.{size_written, offset_written, records_written, format_written, length_written, count_written}
use Rattle.lasfile.specs.FileChecks.{records_end}
use Rattle.lasfile.specs.Passed.{Passed}
use Rattle.lasfile.proofs.Passed.{records_end_lem}
use Rattle.publicpart.specs.Bounds.{bins, bounds}
use Rattle.publicpart.specs.Public.{Public, carried_of, contents}
use Rattle.publicpart.specs.Head.{head_widths, head_fields}
use Rattle.publicpart.specs.Render.{new_offset, head_of, render, totals}
use Rattle.publicpart.proofs.BoundLaws.{length-bins, length-bounds}
use Rattle.publicpart.proofs.HeadLaws.{Fitting, length_head, head_field}
use Rattle.publicpart.proofs.RenderLaws.{new_offset_lem, total_length, render_parts, length_parts}
use Rattle.publicpart.proofs.Sound.{Sound}

module _ (p : Public) (h : Sound p) where
  pub fitting : Fitting (head_of p)
  unfolding head_of
  fitting =
      record {
        ids = h.carried.ids;
        system = h.carried.system.short;
        software = h.carried.software.short;
        bins = length-bins 5 p.carried.format p.points;
        scaling = h.carried.scaling;
        bounds = length-bounds (scaling_in p.carried.scaling) p.points;
      }

  pub length-render : length (render p) ≡ (totals p).file_length
  length-render =
      omega (
        arith,
        length_parts p,
        length_head (head_of p) fitting,
        length-records_bytes 2 p.records h.records,
        length-join_pieces p.carried.record_length p.points h.points,
        new_offset_lem p,
        total_length p,
      )

  module _ (k : ℕ) where
    abbrev file : Bytes
    file = render p ++ zeros k

    field : (i : ℕ) → i < 16 → part (start i head_widths) (get_or head_widths i 0) file ≡ get_or (head_fields (head_of p)) i []
    field i l = rw (render_parts p (zeros k)) (head_field (head_of p) fitting (records_bytes 2 p.records ++ (join p.points ++ zeros k)) i l)

    header_size_back : header_size file ≡ header_block
    header_size_back = size_written file header_block (field 7 (lit< tt)) (lit< tt)

    point_offset_back : point_offset file ≡ new_offset p
    unfolding head_of
    point_offset_back = offset_written file (new_offset p) (field 8 (lit< tt)) h.offset

    record_count_back : record_count file ≡ length p.records
    unfolding head_of
    record_count_back = records_written file (length p.records) (field 9 (lit< tt)) h.record_count

    format_back : format file ≡ p.carried.format
    unfolding head_of
    format_back = format_written file p.carried.format (field 10 (lit< tt)) (omega (arith, h.carried.format))

    record_length_back : record_length file ≡ p.carried.record_length
    unfolding head_of
    record_length_back = length_written file p.carried.record_length (field 11 (lit< tt)) h.carried.record_length

    point_count_back : point_count file ≡ length p.points
    unfolding head_of
    point_count_back = count_written file (length p.points) (field 12 (lit< tt)) h.point_count

    scaling_back : part 131 48 file ≡ p.carried.scaling
    unfolding head_of
    scaling_back = field 14 (lit< tt)

    pub bins_back : part 111 20 file ≡ numbers_bytes 4 (bins 5 p.carried.format p.points)
    unfolding head_of
    bins_back = field 13 (lit< tt)

    pub bounds_back : part 179 48 file ≡ numbers_bytes 8 (bounds (scaling_in p.carried.scaling) p.points)
    unfolding head_of
    bounds_back = field 15 (lit< tt)

    length-file : length file ≡ new_offset p + length p.points * p.carried.record_length + k
    length-file = simp (length-append, length-render, total_length p, length-replicate)

    walk_is : walk 2 (record_count file) (header_size file) file ≡ p.records
    walk_is =
        rw (record_count_back, header_size_back, render_parts p (zeros k))
        (walk_back 2 p.records h.records header_block (join (head_fields (head_of p))) (join p.points ++ zeros k) (length_head (head_of p) fitting))

    records_end_is : records_end file ≡ new_offset p
    records_end_is =
        rw (records_end_lem file, new_offset_lem p, record_count_back, header_size_back, render_parts p (zeros k))
        (walk_end_back 2 p.records h.records header_block (join (head_fields (head_of p))) (join p.points ++ zeros k) (length_head (head_of p) fitting))

    offset_is : length (join (head_fields (head_of p)) ++ records_bytes 2 p.records) ≡ new_offset p
    offset_is = simp (new_offset_lem p, length-append, length_head (head_of p) fitting, length-records_bytes 2 p.records h.records)

    points_start : drop (new_offset p) file ≡ join p.points ++ zeros k
    points_start =
        let front : Bytes = join (head_fields (head_of p)) ++ records_bytes 2 p.records in
        let e : file ≡ front ++ (join p.points ++ zeros k) = render_parts p (zeros k) ∙ simp append_assoc in
        rw e (drop_at front (join p.points ++ zeros k) (new_offset p) offset_is)

    points_are : pieces (point_count file) (record_length file) (drop (point_offset file) file) ≡ p.points
    points_are = rw (point_count_back, record_length_back, point_offset_back, points_start) (pieces_back p.carried.record_length p.points (zeros k) h.points)

    above : header_block ≤ new_offset p
    above = omega (arith, new_offset_lem p)

    pub file_passes : Passed file
    file_passes =
        record {
          whole = omega (arith, length-file, above);
          signed = field 0 (lit< tt);
          versioned = field 2 (lit< tt);
          header_low = omega (arith, header_size_back);
          header_high = omega (arith, header_size_back, length-file, above);
          formatted = rw format_back h.carried.format;
          record_low = rw (format_back, record_length_back) h.carried.record_low;
          offset_low = omega (arith, header_size_back, point_offset_back, above);
          offset_high = omega (arith, point_offset_back, length-file);
          walked = omega (arith, records_end_is, point_offset_back);
          pointed = rw (point_offset_back, point_count_back, record_length_back) (omega (arith, length-file));
          scaled = rw (scaling_in_lem file, scaling_back) h.carried.scaled;
        }

    carried_back : carried_of file ≡ p.carried
    unfolding carried_of
    carried_back =
        let ids : part 4 20 file ≡ p.carried.ids = unfold head_of in field 1 (lit< tt) in
        let system : cut (part 26 32 file) ≡ p.carried.system = unfold head_of in rw (field 3 (lit< tt)) h.carried.system.back in
        let software : cut (part 58 32 file) ≡ p.carried.software = unfold head_of in rw (field 4 (lit< tt)) h.carried.software.back in
        let day : num (part 90 2 file) ≡ p.carried.day = unfold head_of in rw (field 5 (lit< tt)) (num-bytes_of 2 p.carried.day h.carried.day) in
        let year : num (part 92 2 file) ≡ p.carried.year = unfold head_of in rw (field 6 (lit< tt)) (num-bytes_of 2 p.carried.year h.carried.year) in
        λ i.
        record {
          ids = ids i;
          system = system i;
          software = software i;
          day = day i;
          year = year i;
          format = format_back i;
          record_length = record_length_back i;
          scaling = scaling_back i;
        }

    pub contents_back : contents file ≡ p
    unfolding contents
    contents_back = λ i. record { carried = carried_back i; records = walk_is i; points = points_are i }
