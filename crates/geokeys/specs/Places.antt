-- What the searches of the code answer: a place, or that there is none, or why; and the entries read.
-- Assumes nothing.
use Rattle.std.specs.Prelude.{◌≡◌, ℕ, ◌<◌, ◌^◌, Option, Some, None}
use Rattle.std.specs.Borrow.{Bor}
use Rattle.std.proofs.Math.Option as math
use Rattle.std.proofs.Math.Option.{none, some}
use Rattle.fields.specs.Bytes.{Bytes}
use Rattle.fields.specs.Checks.{Verdict, Passes, Fails}
use Rattle.geokeys.specs.GeoKeys.{payload_at, directory_of, search_verdict}
use Rattle.geokeys.specs.Halving.{Halved}
use Rattle.geokeys.specs.declared.halving.Search.{Search}

unfoldable pub place_in : Option ℕ → math.Option ℕ
place_in (Some at) = some at
place_in None = none

-- the bytes of the entry
unfoldable pub entry_in : Option (Bor Bytes) → math.Option Bytes
entry_in (Some e) = some e.now
entry_in None = none

-- the entry, and the reads
unfoldable pub halved_in : Search → Halved
halved_in r = record { entry = entry_in r.found; reads = r.reads }

-- the place of the record whose payload is the directory that is searched; or the number of a refusal
pub data DirectoryAt : Type 0 where
  Place : ℕ → DirectoryAt
  Refused : ℕ → DirectoryAt

-- the directory's place, or its number
unfoldable pub place_if : Verdict → ℕ → DirectoryAt
place_if Passes at = Place at
place_if (Fails n) at = Refused n

-- where all passes that is checked before a search, the place of the directory; else the number
abbrev pub Searches : Bytes → DirectoryAt → Type 0
Searches s (Place at) = (search_verdict s ≡ Passes) × (directory_of s ≡ some (payload_at s at)) × (at < 2 ^ 50)
Searches s (Refused n) = search_verdict s ≡ Fails n
