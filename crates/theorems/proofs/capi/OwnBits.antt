-- The scales and offsets of a header that is read are handed back by their own 64 bits.
-- Assumes nothing.
use mathlib.Core.Path.{◌≡◌, refl, ap, ◌∙◌}
use Prim.Native.Nat.{ℕ}
use mathlib.Core.List.{List, [], ◌∷◌}
use Rattle.fields.specs.Bytes.{Bytes, AllBytes}
use Rattle.fields.specs.Checks.{Passes}
use Rattle.theorems.specs.Coordinates.{Axis, axis_x, axis_y, axis_z, axis_scale, axis_offset, scale_place, offset_place, CarriedBits, OwnBits}
use Rattle.theorems.proofs.scaling.CoordinateTheorems.{carried}
use Rattle.lasfile.specs.FileChecks.{file_verdict}
use Rattle.lasfile.proofs.Passed.{passed}
use Rattle.reader.specs.Header.{header_of, header_if, header_read}
use Rattle.capi.specs.HeaderAnswers.{scale_numbers, offset_numbers, found_header, header_numbers}
use Rattle.capi.specs.declared.header.las_header.{las_header}
use Rattle.capi.specs.Interface.{las_read_header}

read : (file : Bytes) → file_verdict file ≡ Passes → las_read_header file ≡ found_header (header_of file)
unfolding las_read_header header_read header_if header_numbers
read file e = rw e refl

three : {a b c x y z : ℕ} → a ≡ x → b ≡ y → c ≡ z → ◌≡◌ {A = List ℕ} (a ∷ b ∷ c ∷ []) (x ∷ y ∷ z ∷ [])
three p q r i = p i ∷ q i ∷ r i ∷ []

by_bits : (file : Bytes) → AllBytes file → file_verdict file ≡ Passes → (axis : Axis) → CarriedBits file axis
by_bits file h e = carried file h (passed file e).scaled

pub own_bits : OwnBits
unfolding found_header header_of scale_numbers offset_numbers axis_scale axis_offset scale_place offset_place
own_bits =
    record {
      scales =
          λ file h e.
          let by = by_bits file h e in
          ap (λ (r : las_header). r.scale) (read file e) ∙ three (by axis_x).scale_bits (by axis_y).scale_bits (by axis_z).scale_bits;
      offsets =
          λ file h e.
          let by = by_bits file h e in
          ap (λ (r : las_header). r.offset) (read file e) ∙ three (by axis_x).offset_bits (by axis_y).offset_bits (by axis_z).offset_bits;
    }
