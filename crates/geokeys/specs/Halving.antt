-- GeoKey lookups by halving: the same lookup, but that the entry is searched for by halving those that are left. It
-- also gives the number of entries read.
-- Assumes nothing.
use Rattle.std.specs.Prelude.{ℕ, zero, suc, ◌+◌, ◌/◌, Bool, true, false, List, [], ◌∷◌, length, take, drop, get_or, eqb, ltb}
use Rattle.std.proofs.Math.Option.{Option, none, some}
use Rattle.fields.specs.Bytes.{Bytes}
use Rattle.fields.specs.Checks.{Verdict, Passes, Fails}
use Rattle.geokeys.specs.GeoKeys.{GeoKey, Refused, key_of, from_entry, searched, search_verdict}

-- ---- the entries that are left

-- the middle of n entries is entry n/2 rounded down, counted from 0
unfoldable pub middle : List Bytes → Bytes
middle es = get_or es (length es / 2) []

-- the entries before it, and those after it
unfoldable pub before : List Bytes → List Bytes
before es = take (length es / 2) es

unfoldable pub after : List Bytes → List Bytes
after es = drop (length es / 2 + 1) es

-- ---- the search

-- the entry that was found, if any, and the number of entries read
pub record Halved : Type 0 where
  pub entry : Option Bytes
  pub reads : ℕ

abbrev pub none_left : Halved
none_left = record { entry = none; reads = 0 }

-- with the middle entry read before it
unfoldable pub one_more : Halved → Halved
one_more h = record { entry = h.entry; reads = h.reads + 1 }

-- an equal key ends the search, a larger one leaves the entries before it, a smaller one those after it
unfoldable pub go_on : Bool → Bool → Bytes → Halved → Halved → Halved
go_on true larger e earlier later = record { entry = some e; reads = 1 }
go_on false true e earlier later = one_more earlier
go_on false false e earlier later = one_more later

-- the search among entries; n bounds how often it goes on, and as many as there are entries are always enough
unfoldable pub halving : ℕ → List Bytes → ℕ → Halved
halving zero es key = none_left
halving (suc n) [] key = none_left
halving (suc n) (e ∷ es) key =
    go_on (eqb (key_of (middle (e ∷ es))) key) (ltb key (key_of (middle (e ∷ es)))) (middle (e ∷ es))
    (halving n (before (e ∷ es)) key)
    (halving n (after (e ∷ es)) key)

unfoldable pub halve : List Bytes → ℕ → Halved
halve es key = halving (length es) es key

-- ---- the lookup

-- what a lookup finds, or its number, and how many entries of the directory it read
pub record KeyRead : Type 0 where
  pub found : GeoKey
  pub reads : ℕ

-- the answer by the entry that was found, 42 to 46, with the entries read for it
unfoldable pub key_read : Bytes → Halved → KeyRead
key_read s h = record { found = from_entry s h.entry; reads = h.reads }

-- what is refused before the search reads no entry
unfoldable pub read_if : Verdict → KeyRead → KeyRead
read_if Passes r = r
read_if (Fails n) r = record { found = Refused n; reads = 0 }

unfoldable pub lookup_by_halving : Bytes → ℕ → KeyRead
lookup_by_halving s key = read_if (search_verdict s) (key_read s (halve (searched s) key))
