-- The theorems on the lookup by halving, applied to a file whose key IDs rise and to one whose key IDs fall; in the
-- second, halving and the plain lookup differ.
-- Assumes nothing.
use Rattle.std.specs.Prelude.{◌≡◌, ℕ, ◌+◌, ◌*◌, ◌≤◌, ◌<◌, List, [], ◌∷◌, ◌++◌, length}
use Rattle.std.proofs.Math.Option.{some}
use Rattle.fields.specs.Bytes.{Bytes, bytes_of, zeros, join}
use Rattle.lasfile.specs.HeaderFields.{signature, version}
use Rattle.lasfile.specs.FileChecks.{file_checks}
use Rattle.geokeys.specs.GeoKeys.{projection, entry_of, searched, lookup, Value, Refused}
use Rattle.geokeys.specs.Halving.{halve, lookup_by_halving}
use Rattle.capi.specs.Interface.{las_geokey_find, las_geokey_halve}
use Rattle.theorems.specs.Tables.{Given, halving_checks}
use Rattle.theorems.specs.Halving.{Middle, HasKey}
use Rattle.theorems.specs.Samples.{half, ten, file9}

-- ---- the data

-- an entry with the value in itself: location 0, count 1
abbrev pub entry : ℕ → ℕ → Bytes
entry key value = join (bytes_of 2 key ∷ bytes_of 2 0 ∷ bytes_of 2 1 ∷ bytes_of 2 value ∷ [])

-- a directory's record: "LASF_Projection" 34735, and the entries behind 1, 1, 0 and their number
abbrev pub directory_record : List Bytes → Bytes
directory_record es =
    zeros 2 ++ projection ++ zeros 1 ++ bytes_of 2 34735 ++ bytes_of 2 (8 + 8 * length es) ++ zeros 32
    ++ (1 ∷ 0 ∷ 1 ∷ 0 ∷ 0 ∷ 0 ∷ []) ++ bytes_of 2 (length es) ++ join es

-- a file of that record alone, with no points
abbrev pub key_file : List Bytes → Bytes
key_file es =
    join (
    signature
    ∷ zeros 20
    ∷ version
    ∷ zeros 68
    ∷ bytes_of 2 227
    ∷ bytes_of 4 (289 + 8 * length es)
    ∷ bytes_of 4 1
    ∷ bytes_of 1 0
    ∷ bytes_of 2 20
    ∷ zeros 24
    ∷ half
    ∷ half
    ∷ half
    ∷ ten
    ∷ ten
    ∷ ten
    ∷ zeros 48
    ∷ directory_record es
    ∷ []
    )

-- keys 1, 2, 3 with the values 10, 20, 30, and keys 2, 1 with the values 20, 10
abbrev pub risen : List Bytes
risen = entry 1 10 ∷ entry 2 20 ∷ entry 3 30 ∷ []

abbrev pub fallen : List Bytes
fallen = entry 2 20 ∷ entry 1 10 ∷ []

-- ---- demand 1

pub record HalvingDemand1Met : Type 0 where
  -- 42 has the entry that was read beside it
  pub zeros_beside : las_geokey_halve (key_file fallen) 2
      ≡ record { number = 42; location = 0; value = 0; length = 0; reads = 1 }
  -- 40 has none
  pub none_beside : las_geokey_halve file9 1 ≡ record { number = 40; location = 0; value = 0; length = 0; reads = 0 }
  -- 42 is the number of the table
  pub number : Given (file_checks (key_file fallen) ++ halving_checks (key_file fallen) 2) 42

-- ---- the search

pub record HalvesMet : Type 0 where
  -- the middle of three entries is the second
  pub middle : Middle risen (entry 1 10 ∷ []) (entry 2 20) (entry 3 30 ∷ [])
  -- it is found at once
  pub equal : halve risen 2 ≡ record { entry = some (entry 2 20); reads = 1 }
  -- the first and the last after it
  pub larger : halve risen 1 ≡ record { entry = some (entry 1 10); reads = 2 }
  pub smaller : halve risen 3 ≡ record { entry = some (entry 3 30); reads = 2 }

pub record ReadsFewMet : Type 0 where
  -- three entries have two bits
  pub at_most : (halve risen 1).reads ≤ 2
  -- and a key below all takes as many
  pub as_many : 1 < (halve risen 0).reads
  -- the file's directory has no more than a payload can hold
  pub keys : length (searched (key_file risen)) ≤ 8190
  pub at_most_13 : (las_geokey_halve (key_file risen) 1).reads ≤ 13

pub record AsThePlainLookupMet : Type 0 where
  -- the file's directory has these three entries
  pub risen_searched : searched (key_file risen) ≡ risen
  -- halving comes to the first entry of a key
  pub entries_agree : (halve risen 3).entry ≡ entry_of risen 3
  -- a key that is there, and one that is not
  pub there : (lookup_by_halving (key_file risen) 1).found ≡ lookup (key_file risen) 1
  pub numbers : las_geokey_find (key_file risen) 1 ≡ record { number = 0; location = 0; value = 10; length = 0 }
  pub not_there : (lookup_by_halving (key_file risen) 4).found ≡ lookup (key_file risen) 4
  -- a file without a directory is refused alike
  pub before_search : (lookup file9 1 ≡ Refused 40)
      × (lookup_by_halving file9 1 ≡ record { found = Refused 40; reads = 0 })
  -- what is found where the key IDs fall has the key
  pub finds_the_key : HasKey fallen 1 (entry 1 10)

-- where the key IDs do not rise, halving may miss a key that is there; this is what it is defined to do
pub record Differs : Type 0 where
  pub fallen_searched : searched (key_file fallen) ≡ fallen
  pub plainly : lookup (key_file fallen) 2 ≡ Value 20
  pub by_halving : lookup_by_halving (key_file fallen) 2 ≡ record { found = Refused 42; reads = 1 }
