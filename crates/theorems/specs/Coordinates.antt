-- What is proved of coordinates, over the scale and offset of any axis: finite and in order, exact where the
-- specification says so, and scales and offsets carried by their own 64 bits.
-- Assumes nothing.
use Rattle.std.specs.Prelude.{◌≡◌, ℕ, ◌*◌, ◌^◌, ◌≤◌, Bool, false, cond, [], ◌∷◌, T, ℤ, pos, neg_ℤ, nat_abs, ◌+ℤ◌, ◌*ℤ◌, ◌≤ℤ◌, Float}
use Rattle.std.specs.Float.{nan, inf, fin, binary64}
use Rattle.std.specs.Float.Ieee.{up, down, le, to_bits, of_int}
use Rattle.std.specs.Float.Ieee.Scale.{finite}
use Rattle.fields.specs.Bytes.{Bytes, AllBytes, part, num}
use Rattle.fields.specs.Checks.{Passes}
use Rattle.scaling.specs.Scaling.{coordinate_of, scaling_of, good_scaling}
use Rattle.scaling.specs.declared.Scaling.{Scaling}
use Rattle.lasfile.specs.FileChecks.{file_verdict}
use Rattle.capi.specs.Interface.{las_read_header}

-- ---- what X, Y and Z share: each has a scale and an offset, at a place of the header

pub data Axis : Type 0 where
  axis_x axis_y axis_z : Axis

unfoldable pub axis_scale : Axis → Scaling → Float
axis_scale axis_x c = c.x_scale
axis_scale axis_y c = c.y_scale
axis_scale axis_z c = c.z_scale

unfoldable pub axis_offset : Axis → Scaling → Float
axis_offset axis_x c = c.x_offset
axis_offset axis_y c = c.y_offset
axis_offset axis_z c = c.z_offset

-- the places of the two in the header
unfoldable pub scale_place : Axis → ℕ
scale_place axis_x = 131
scale_place axis_y = 139
scale_place axis_z = 147

unfoldable pub offset_place : Axis → ℕ
offset_place axis_x = 155
offset_place axis_y = 163
offset_place axis_z = 171

-- ---- doubles as whole numbers over a power of two

-- the whole number of size n, negative where s is true
unfoldable pub signed : Bool → ℕ → ℤ
signed s n = cond s (neg_ℤ (pos n)) (pos n)

-- x is finite, and 2 ^ k times x is the whole number z
unfoldable pub Times : ℕ → Float → ℤ → Type 0
Times k nan z = ⊥
Times k (inf s) z = ⊥
Times k (fin s m e) z = signed s (m * up e * 2 ^ k) ≡ z *ℤ pos (down e)

-- ---- what is said of a scale and an offset

-- a stored value is a whole number of at most 32 bits, 2 ^ 31 too
unfoldable pub Fits32 : ℤ → Type 0
Fits32 z = nat_abs z ≤ 2 ^ 31

pub record FiniteInOrder (scale offset : Float) : Type 0 where
  -- a coordinate is neither a NaN nor an infinity
  pub is_finite : (stored : ℤ) → Fits32 stored → T (finite (coordinate_of stored scale offset))
  -- a larger stored value never has a smaller coordinate
  pub in_order : (a b : ℤ) → Fits32 a → Fits32 b → a ≤ℤ b
      → T (le (coordinate_of a scale offset) (coordinate_of b scale offset))

-- the exact case
pub record ExactCase (k : ℕ) (scale offset : Float) (whole : ℤ) : Type 0 where
  -- k is from 0 to 10
  pub few : k ≤ 10
  -- the scale is 2 ^ -k
  pub power : Times k scale (pos 1)
  -- the offset is a whole number
  pub is_whole : Times 0 offset whole
  -- of size at most 2 ^ 40
  pub small : nat_abs whole ≤ 2 ^ 40

-- 2 ^ k times the coordinate is the whole number stored + whole · 2 ^ k
unfoldable pub Exact : ℕ → Float → Float → ℤ → Type 0
Exact k scale offset whole =
    (stored : ℤ) → Fits32 stored → Times k (coordinate_of stored scale offset) (stored +ℤ whole *ℤ pos (2 ^ k))

-- the scale and offset of an axis have the 64 bits that stand in the header
pub record CarriedBits (s : Bytes) (axis : Axis) : Type 0 where
  -- the scale's
  pub scale_bits : to_bits binary64 (axis_scale axis (scaling_of s)) ≡ num (part (scale_place axis) 8 s)
  -- the offset's
  pub offset_bits : to_bits binary64 (axis_offset axis (scaling_of s)) ≡ num (part (offset_place axis) 8 s)

-- ---- the theorems

pub record Coordinates : Type 0 where
  -- scales and offsets that pass number 10 give finite coordinates, in the order of the stored values
  pub finite_in_order : (c : Scaling) → T (good_scaling c) → (axis : Axis)
      → FiniteInOrder (axis_scale axis c) (axis_offset axis c)
  -- those of a file are carried by their bits
  pub carried : (s : Bytes) → AllBytes s → T (good_scaling (scaling_of s)) → (axis : Axis) → CarriedBits s axis
  -- in the exact case a coordinate is exact
  pub exact : (k : ℕ) (scale offset : Float) (whole : ℤ) → ExactCase k scale offset whole → Exact k scale offset whole
  -- the exact case is met by the doubles 2 ^ -k and `whole`
  pub exact_case : (k : ℕ) (whole : ℤ) → k ≤ 10 → nat_abs whole ≤ 2 ^ 40
      → ExactCase k (fin false 1 (neg_ℤ (pos k))) (of_int binary64 whole) whole

-- a header that is read hands back the scales and offsets by their own 64 bits
pub record OwnBits : Type 0 where
  -- the three scales
  pub scales : (file : Bytes) → AllBytes file → file_verdict file ≡ Passes
      → (las_read_header file).scale ≡ num (part 131 8 file) ∷ num (part 139 8 file) ∷ num (part 147 8 file) ∷ []
  -- the three offsets
  pub offsets : (file : Bytes) → AllBytes file → file_verdict file ≡ Passes
      → (las_read_header file).offset ≡ num (part 155 8 file) ∷ num (part 163 8 file) ∷ num (part 171 8 file) ∷ []
