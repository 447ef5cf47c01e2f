-- Terms of the theorems: a file that passes, the released file's length, the length of its cutting list, what a refused
-- release and a refused lookup by halving answer, an accepted release, and its output read as a file.
-- Assumes nothing.
use Rattle.std.specs.Prelude.{◌≡◌, ℕ, cond, eqb, leb, length, take}
use Rattle.fields.specs.Bytes.{Bytes, AllBytes}
use Rattle.fields.specs.Checks.{Passes}
use Rattle.lasfile.specs.FileChecks.{file_verdict}
use Rattle.publicpart.specs.Public.{public_of}
use Rattle.publicpart.specs.Render.{render}
use Rattle.publicpart.specs.Cutting.{kept_together}
use Rattle.publicpart.specs.Release.{Released, release}
use Rattle.capi.specs.declared.answers.las_released.{las_released}
use Rattle.capi.specs.declared.vlr.las_geokey_read.{las_geokey_read}

pub record Good (s : Bytes) : Type 0 where
  -- a file is bytes
  pub bytes : AllBytes s
  -- and passes the file checks
  pub passes : file_verdict s ≡ Passes

-- the length of the released file
abbrev pub needed : Bytes → Bytes → ℕ
needed sheet file = length (render (public_of sheet file))

-- the lines that a list needs: one for each kept record and each kept point
abbrev pub enough : Bytes → Bytes → ℕ
enough sheet file = kept_together (public_of sheet file)

-- what a release answers where it is refused with the number n: 30 has the needed length m beside it
unfoldable pub refusal : ℕ → ℕ → las_released
refusal n m = record { number = n; length = cond (eqb n 30) m 0; points = 0; records = 0 }

-- what a lookup by halving answers where it is refused with the number n: 42 to 46 have the m entries read beside them
unfoldable pub key_refusal : ℕ → ℕ → las_geokey_read
key_refusal n m = record { number = n; location = 0; value = 0; length = 0; reads = cond (leb 42 n) m 0 }

pub record Accepted (sheet f a : Bytes) (n points records : ℕ) : Type 0 where
  -- the source f is bytes
  pub bytes : AllBytes f
  -- its release into the output a is accepted: the file length n, and these numbers of kept points and kept records
  pub answer : (release sheet f a).0 ≡ Released n points records

-- of the output as a file, with the zeros behind the returned length n and without
abbrev pub OfOutput : Bytes → Bytes → Bytes → ℕ → (Bytes → Type 0) → Type 0
OfOutput sheet f a n P = P (release sheet f a).1 × P (take n (release sheet f a).1)
