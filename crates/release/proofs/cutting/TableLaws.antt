-- The lines of what a keeper keeps are those that the sheet gives from which it was made.
-- Assumes nothing.
use mathlib.Core.Path.{◌≡◌, ap}
use Prim.Native.Nat.{ℕ}
use mathlib.Core.List.{List, ◌++◌, map}
use lib.ListN.{drop}
use Rattle.release.specs.declared.kept_points.Keeper.{Keeper}
use Rattle.fields.specs.Bytes.{Bytes, AllBytes, part}
use Rattle.fields.proofs.ListLaws.{kept_same, all_of}
use Rattle.fields.proofs.ByteLaws.{take_bytes, drop_bytes}
use Rattle.lasfile.specs.HeaderFields.{header_size, point_offset, record_count, format, record_length, point_count}
use Rattle.sheet.specs.Keeping.{keeps_point, TableOf}
use Rattle.sheet.specs.Boxes.{BoxesOf, keeps_by}
use Rattle.sheet.proofs.boxes.BoxLaws.{keeps_by_lem}
use Rattle.publicpart.specs.declared.Span.{Span}
use Rattle.publicpart.specs.Cutting.{span, strides, payload_lines, piece_lines, record_lines, point_lines, cutting_lines}
use Rattle.release.specs.Filling.{lines_of, kept_lines}

module _ (sheet s : Bytes) (bytes : AllBytes s) (keeper : Keeper) (right : TableOf sheet (format s) keeper.table) (read : BoxesOf sheet keeper.boxes) where
  same_test : (a : ℕ) → keeps_by keeper.table keeper.boxes (format s) (part a (record_length s) s) ≡ keeps_point sheet (format s) (part a (record_length s) s)
  same_test a = keeps_by_lem sheet (format s) keeper.table keeper.boxes right read (part a (record_length s) s) (unfold part in take_bytes (record_length s) (drop a s) (drop_bytes a s bytes))

  same_points : piece_lines (keeps_by keeper.table keeper.boxes (format s)) s (record_length s) (point_count s) (point_offset s) ≡ point_lines sheet s
  unfolding piece_lines point_lines
  same_points =
      let all : List ℕ = strides (record_length s) (point_count s) (point_offset s) in
      ap (map (λ a. span a (record_length s)))
      (kept_same (λ a. keeps_by keeper.table keeper.boxes (format s) (part a (record_length s) s)) (λ a. keeps_point sheet (format s) (part a (record_length s) s)) all (all_of _ all same_test))

  pub by_table : kept_lines sheet keeper s ≡ cutting_lines sheet s
  unfolding lines_of cutting_lines record_lines
  by_table = ap (λ (ls : List Span). payload_lines sheet s (record_count s) (header_size s) ++ ls) same_points
