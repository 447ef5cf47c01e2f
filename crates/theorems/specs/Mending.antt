-- What is proved of the mender: it changes the twelve fields alone and marks those that it changed, a mended file is
-- right about its points and stays as it is, and mending does not change what a release gives, unless the file is one
-- that is refused with 9.
-- Assumes nothing.
use Rattle.std.specs.Prelude.{◌≡◌, ◌↔◌, ◌⊎◌, ℕ, ◌+◌, ◌-◌, ◌/◌, ◌≤◌, ◌<◌, min, true, false, length, get_or, replicate}
use Rattle.fields.specs.Lists.{All}
use Rattle.fields.specs.Bytes.{Bytes, AllBytes, part, zeros}
use Rattle.fields.specs.Checks.{Passes, Fails}
use Rattle.lasfile.specs.HeaderFields.{point_offset, record_length, point_count}
use Rattle.lasfile.specs.FileChecks.{file_verdict}
use Rattle.publicpart.specs.Public.{contents}
use Rattle.publicpart.specs.Release.{release}
use Rattle.editor.specs.Mend.{Field, mended_fields, mend}
use Rattle.capi.specs.Interface.{las_mend}
use Rattle.theorems.specs.Terms.{Good}
use Rattle.theorems.specs.Coordinates.{Axis}
use Rattle.theorems.specs.BoundsOfKept.{Bounded, Binned}

-- ---- terms

-- a place that is in none of the twelve fields
unfoldable pub InNoField : ℕ → Type 0
InNoField i = All (λ (f : Field). (i < f.0) ⊎ (f.0 + f.1 ≤ i)) mended_fields

-- the bytes of field i of the twelve, counted from 0
unfoldable pub field_in : ℕ → Bytes → Bytes
field_in i s = let f : Field = get_or mended_fields i (0, 0) in part f.0 f.1 s

pub record Mends (s : Bytes) : Type 0 where
  -- a file is bytes
  pub bytes : AllBytes s
  -- and its mending is accepted
  pub accepted : (mend s).0.verdict ≡ Passes

-- ---- the theorems

pub record Untouched : Type 0 where
  -- the length stays
  pub length_stays : (s : Bytes) → length (mend s).1 ≡ length s
  -- outside the twelve fields no byte changes
  pub bytes_stay : (s : Bytes) (i : ℕ) → InNoField i → get_or (mend s).1 i 0 ≡ get_or s i 0

pub record Marked : Type 0 where
  -- there are twelve marks
  pub twelve : (s : Bytes) → length (mend s).0.marks ≡ 12
  -- a mark is yes exactly if that field's bytes changed
  pub exactly : (s : Bytes) (i : ℕ) → i < 12
      → (get_or (mend s).0.marks i false ≡ true) ↔ (field_in i (mend s).1 ≡ field_in i s → ⊥)

pub record NeverNine : Type 0 where
  -- `las_mend` never gives 9
  pub never_9 : (s : Bytes) → (las_mend s).0.number ≡ 9 → ⊥

pub record RightAboutPoints : Type 0 where
  -- a mended file passes all file checks, 9 too
  pub passes : (s : Bytes) → Mends s → file_verdict (mend s).1 ≡ Passes
  -- its number of points is the smaller of the stated number and the whole records that fit after the offset
  pub counted : (s : Bytes) → Mends s
      → point_count (mend s).1 ≡ min (point_count s) ((length s - point_offset s) / record_length s)
  -- its bins are those of its points
  pub binned : (s : Bytes) → Mends s → Binned (mend s).1 (mend s).1 (contents (mend s).1).points
  -- so are its bounds, where it has some
  pub bounded : (s : Bytes) → Mends s → 1 ≤ point_count (mend s).1 → (axis : Axis)
      → Bounded (mend s).1 (mend s).1 (contents (mend s).1).points axis
  -- and without points all six are +0.0
  pub no_points : (s : Bytes) → Mends s → point_count (mend s).1 ≡ 0 → part 179 48 (mend s).1 ≡ zeros 48

pub record MendedAgain : Type 0 where
  -- mending a mended file is accepted, marks nothing and changes nothing
  pub again : (s : Bytes) → Mends s
      → mend (mend s).1 ≡ (record { verdict = Passes; marks = replicate 12 false }, (mend s).1)

pub record KeepsRelease : Type 0 where
  -- a file that passes can be mended
  pub accepted : (s : Bytes) → file_verdict s ≡ Passes → (mend s).0.verdict ≡ Passes
  -- and keeps its contents: carried fields, records and points
  pub contents_stay : (s : Bytes) → Good s → contents (mend s).1 ≡ contents s
  -- under every sheet and into every output a release is the same before and after mending, unless the file is one that
  -- is refused with 9
  pub release_stays : (sheet s out : Bytes) → AllBytes s → (file_verdict s ≡ Fails 9 → ⊥)
      → release sheet (mend s).1 out ≡ release sheet s out
