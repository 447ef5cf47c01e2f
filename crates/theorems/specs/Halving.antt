-- What is proved of the lookup by halving: how its search goes, how many entries it reads, and that it answers as the
-- plain lookup does where key IDs rise strictly.
-- Assumes nothing.
use Rattle.std.specs.Prelude.{◌≡◌, ℕ, ◌+◌, ◌/◌, ◌≤◌, ◌<◌, ◌^◌, List, [], ◌∷◌, ◌++◌, length}
use Rattle.std.proofs.Math.Option.{none, some}
use Rattle.fields.specs.Bytes.{Bytes, AllBytes}
use Rattle.fields.specs.Lists.{All}
use Rattle.fields.specs.Checks.{Passes, Fails}
use Rattle.geokeys.specs.GeoKeys.{key_of, entry_of, searched, search_verdict, lookup, Refused}
use Rattle.geokeys.specs.Halving.{halve, lookup_by_halving}
use Rattle.capi.specs.Interface.{las_geokey_find, las_geokey_halve}
use Rattle.capi.specs.declared.vlr.las_geokey.{las_geokey}
use Rattle.capi.specs.declared.vlr.las_geokey_read.{las_geokey_read}

-- entries, and the middle one of them: of n, entry n/2 rounded down, counted from 0
pub record Middle (es before : List Bytes) (e : Bytes) (after : List Bytes) : Type 0 where
  pub whole : es ≡ before ++ e ∷ after
  pub place : length before ≡ length es / 2

-- the search, in four equations
pub record Halves : Type 0 where
  -- where none is left, there is no entry, and none is read
  pub none_left : (key : ℕ) → halve [] key ≡ record { entry = none; reads = 0 }
  -- an equal key ends the search
  pub equal : (es before : List Bytes) (e : Bytes) (after : List Bytes) (key : ℕ) → Middle es before e after
      → key_of e ≡ key → halve es key ≡ record { entry = some e; reads = 1 }
  -- a larger one leaves the entries before it
  pub larger : (es before : List Bytes) (e : Bytes) (after : List Bytes) (key : ℕ) → Middle es before e after
      → key < key_of e → halve es key ≡ record { entry = (halve before key).entry; reads = (halve before key).reads + 1 }
  -- a smaller one those after it
  pub smaller : (es before : List Bytes) (e : Bytes) (after : List Bytes) (key : ℕ) → Middle es before e after
      → key_of e < key → halve es key ≡ record { entry = (halve after key).entry; reads = (halve after key).reads + 1 }

pub record ReadsFew : Type 0 where
  -- at most as many as the number of entries has bits: it has at most k exactly if it is below 2 ^ k
  pub at_most : (es : List Bytes) (key k : ℕ) → length es < 2 ^ k → (halve es key).reads ≤ k
  -- and as many where the key is below all: k + 1 bits from 2 ^ k on
  pub as_many : (es : List Bytes) (key k : ℕ) → 2 ^ k ≤ length es → All (λ e. key < key_of e) es
      → k < (halve es key).reads
  -- a directory that passes has at most 8,190 keys
  pub keys : (file : Bytes) → AllBytes file → search_verdict file ≡ Passes → length (searched file) ≤ 8190
  -- so that at most 13 are read
  pub at_most_13 : (file : Bytes) (key : ℕ) → AllBytes file → (las_geokey_halve file key).reads ≤ 13

-- key IDs rise strictly: each is below all those after it
abbrev pub Rising : List Bytes → Type 0
Rising [] = Unit {0}
Rising (e ∷ es) = All (λ f. key_of e < key_of f) es × Rising es

-- the numbers without the reads
abbrev pub without_reads : las_geokey_read → las_geokey
without_reads r = record { number = r.number; location = r.location; value = r.value; length = r.length }

-- an entry of the key
pub record HasKey (es : List Bytes) (key : ℕ) (e : Bytes) : Type 0 where
  pub before : List Bytes
  pub after : List Bytes
  pub whole : es ≡ before ++ e ∷ after
  pub own : key_of e ≡ key

pub record AsThePlainLookup : Type 0 where
  -- where the key IDs rise strictly, halving comes to the first entry of the key
  pub entries_agree : (es : List Bytes) (key : ℕ) → Rising es → (halve es key).entry ≡ entry_of es key
  -- so that the answer is the plain lookup's
  pub agrees : (file : Bytes) (key : ℕ) → Rising (searched file) → (lookup_by_halving file key).found ≡ lookup file key
  -- and its numbers are
  pub numbers_agree : (file : Bytes) (key : ℕ) → Rising (searched file)
      → without_reads (las_geokey_halve file key) ≡ las_geokey_find file key
  -- what is refused before the search is refused alike, whatever the directory, and no entry is read
  pub before_search : (file : Bytes) (key n : ℕ) → search_verdict file ≡ Fails n
      → (lookup file key ≡ Refused n) × (lookup_by_halving file key ≡ record { found = Refused n; reads = 0 })
  -- what halving finds in any directory is one of its entries, and has the key
  pub finds_the_key : (es : List Bytes) (key : ℕ) (e : Bytes) → (halve es key).entry ≡ some e → HasKey es key e
