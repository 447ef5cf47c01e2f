-- Laws of the public part: the carried fields by their places, what a sheet leaves of a file's records and points, and
-- sheets one after the other.
-- Assumes nothing.
use mathlib.Core.Path.{◌≡◌, refl, ap, ◌∙◌}
use lib.ListN.{drop}
use Rattle.fields.specs.Lists.{kept}
use Rattle.fields.specs.Bytes.{Bytes, part, num, pieces}
use Rattle.fields.specs.Text.{cut}
use Rattle.fields.proofs.ListLaws.{kept-kept, kept_comm}
use Rattle.lasfile.specs.Records.{walk}
use Rattle.scaling.specs.Scaling.{scaling_in, scaling_of}
use Rattle.scaling.proofs.ScalingLaws.{scaling_in_lem}
use Rattle.lasfile.specs.HeaderFields.{header_size, point_offset, record_count, format, record_length, point_count}
use Rattle.sheet.specs.Keeping.{keeps_point}
use Rattle.publicpart.specs.Public.{Public, carried_of, contents, sheet_keeps, restrict, public_of}

-- ---- the carried fields

module _ (s : Bytes) where
  pub carried_ids : (carried_of s).ids ≡ part 4 20 s
  unfolding carried_of
  carried_ids = refl

  pub carried_system : (carried_of s).system ≡ cut (part 26 32 s)
  unfolding carried_of
  carried_system = refl

  pub carried_software : (carried_of s).software ≡ cut (part 58 32 s)
  unfolding carried_of
  carried_software = refl

  pub carried_day : (carried_of s).day ≡ num (part 90 2 s)
  unfolding carried_of
  carried_day = refl

  pub carried_year : (carried_of s).year ≡ num (part 92 2 s)
  unfolding carried_of
  carried_year = refl

  pub carried_format : (carried_of s).format ≡ format s
  unfolding carried_of
  carried_format = refl

  pub carried_length : (carried_of s).record_length ≡ record_length s
  unfolding carried_of
  carried_length = refl

  pub carried_scaling : (carried_of s).scaling ≡ part 131 48 s
  unfolding carried_of
  carried_scaling = refl

  -- and read as scales and offsets
  pub carried_scaled : scaling_in (carried_of s).scaling ≡ scaling_of s
  carried_scaled = rw (carried_scaling, scaling_in_lem)

-- ---- the contents of a file

module _ (s : Bytes) where
  pub contents_carried : (contents s).carried ≡ carried_of s
  unfolding contents
  contents_carried = refl

  pub contents_records : (contents s).records ≡ walk 2 (record_count s) (header_size s) s
  unfolding contents
  contents_records = refl

  pub contents_points : (contents s).points ≡ pieces (point_count s) (record_length s) (drop (point_offset s) s)
  unfolding contents
  contents_points = refl

-- ---- sheets one after the other

-- what a sheet leaves stays under that sheet
pub restrict-restrict : (sheet : Bytes) (p : Public) → restrict sheet (restrict sheet p) ≡ restrict sheet p
unfolding restrict
restrict-restrict sheet p = simp kept-kept

-- two sheets in either order
pub restrict_comm : (s t : Bytes) (p : Public) → restrict s (restrict t p) ≡ restrict t (restrict s p)
unfolding restrict
restrict_comm s t p =
    rw (kept_comm (sheet_keeps s) (sheet_keeps t) p.records, kept_comm (keeps_point s p.carried.format) (keeps_point t p.carried.format) p.points)

-- ---- the public part of a file

module _ (sheet s : Bytes) where
  pub public_is : public_of sheet s ≡ restrict sheet (contents s)
  unfolding public_of
  public_is = refl

  pub public_carried : (public_of sheet s).carried ≡ carried_of s
  unfolding public_of restrict contents
  public_carried = refl

  pub public_records : (public_of sheet s).records ≡ kept (sheet_keeps sheet) (contents s).records
  unfolding public_of restrict
  public_records = refl

  pub public_points : (public_of sheet s).points ≡ kept (keeps_point sheet (format s)) (contents s).points
  unfolding public_of restrict contents carried_of
  public_points = refl

  -- a file that has it for its contents has it for its public part
  pub public_again : (file : Bytes) → contents file ≡ public_of sheet s → public_of sheet file ≡ public_of sheet s
  unfolding public_of
  public_again file e = ap (restrict sheet) e ∙ restrict-restrict sheet (contents s)
