-- GeoKey lookups, over the records before the points: numbers 40 to 46 of the specification (docs/SPECIFICATION.md).
-- Assumes nothing.
use Rattle.std.specs.Prelude.{ℕ, ◌+◌, ◌*◌, Bool, true, false, ◌&&◌, ◌||◌, List, [], ◌∷◌, length, drop, eqb}
use Rattle.std.proofs.Math.Option.{Option, none, some}
use Rattle.fields.specs.Bytes.{Bytes, part, num, same, pieces}
use Rattle.fields.specs.Checks.{Check, first_failing, then, ◌below◌, ◌differs_from◌, not_so, ◌or◌, Verdict, Passes, Fails}
use Rattle.lasfile.specs.Records.{record_at, places, front_size}
use Rattle.lasfile.specs.HeaderFields.{header_size, record_count}
use Rattle.lasfile.specs.FileChecks.{file_verdict}

-- "LASF_Projection"
abbrev pub projection : Bytes
projection = 76 ∷ 65 ∷ 83 ∷ 70 ∷ 95 ∷ 80 ∷ 114 ∷ 111 ∷ 106 ∷ 101 ∷ 99 ∷ 116 ∷ 105 ∷ 111 ∷ 110 ∷ []

-- ---- the first that passes a test

unfoldable pub or_later {ℓ} : {A : Type ℓ} → Bool → A → Option A → Option A
or_later true x later = some x
or_later false x later = later

unfoldable pub first {ℓ} : {A : Type ℓ} → (A → Bool) → List A → Option A
first p [] = none
first p (x ∷ xs) = or_later (p x) x (first p xs)

-- whether the record at a place has the cut user ID "LASF_Projection" and this record ID
unfoldable pub is_projection : Bytes → ℕ → ℕ → Bool
is_projection s id at = same (record_at 2 s at).user projection && eqb (record_at 2 s at).id id

-- the place of the first such VLR
unfoldable pub projection_place : Bytes → ℕ → Option ℕ
projection_place s id = first (is_projection s id) (places 2 (record_count s) (header_size s) s)

unfoldable pub payload_at : Bytes → ℕ → Bytes
payload_at s at = (record_at 2 s at).payload

-- ---- the directory

unfoldable pub key_count : Bytes → ℕ
key_count directory = num (part 6 2 directory)

abbrev pub directory_checks : Bytes → List Check
directory_checks directory = (
  41,
  length directory below 8
      or (part 0 6 directory differs_from 1 ∷ 0 ∷ 1 ∷ 0 ∷ 0 ∷ 0 ∷ []
      or length directory below 8 + 8 * key_count directory),
)
    ∷ []

-- the entries, of 8 bytes each: key ID, location, count, value offset
unfoldable pub entries : Bytes → List Bytes
entries directory = pieces (key_count directory) 8 (drop 8 directory)

unfoldable pub key_of : Bytes → ℕ
key_of entry = num (part 0 2 entry)

unfoldable pub location_of : Bytes → ℕ
location_of entry = num (part 2 2 entry)

unfoldable pub count_of : Bytes → ℕ
count_of entry = num (part 4 2 entry)

unfoldable pub offset_of : Bytes → ℕ
offset_of entry = num (part 6 2 entry)

-- the first entry of a key
unfoldable pub entry_of : List Bytes → ℕ → Option Bytes
entry_of es key = first (λ e. eqb (key_of e) key) es

abbrev pub entry_checks : Bytes → List Check
entry_checks entry =
    (43, not_so (eqb (location_of entry) 0 || (eqb (location_of entry) 34736 || eqb (location_of entry) 34737)))
    ∷ (44, not_so (eqb (location_of entry) 34737 || eqb (count_of entry) 1))
    ∷ []

-- ---- the answer

-- a key's value: a number, a double's 64 bits, a text's place in the file and its length; or the number of a refusal
pub data GeoKey : Type 0 where
  Value : ℕ → GeoKey
  Double : ℕ → GeoKey
  Text : ℕ → ℕ → GeoKey
  Refused : ℕ → GeoKey

unfoldable pub answer_if : Verdict → GeoKey → GeoKey
answer_if Passes g = g
answer_if (Fails n) g = Refused n

unfoldable pub either : Bool → GeoKey → GeoKey → GeoKey
either true g h = g
either false g h = h

-- a double sits at 8 · value offset; a text at value offset, count bytes
abbrev pub double_checks : Bytes → Bytes → List Check
double_checks entry parameters = (46, length parameters below 8 * offset_of entry + 8) ∷ []

abbrev pub text_checks : Bytes → Bytes → List Check
text_checks entry parameters = (46, length parameters below offset_of entry + count_of entry) ∷ []

unfoldable pub double_in : Bytes → Bytes → GeoKey
double_in entry parameters =
    answer_if (first_failing (double_checks entry parameters)) (Double (num (part (8 * offset_of entry) 8 parameters)))

-- the text's place in the file, and its length
unfoldable pub text_in : Bytes → ℕ → Bytes → GeoKey
text_in entry at parameters =
    answer_if (first_failing (text_checks entry parameters)) (Text (at + front_size 2 + offset_of entry) (count_of entry))

-- the value of an entry in the payload of the parameter record at a place
abbrev pub in_payload : Bytes → ℕ → Bytes → GeoKey
in_payload entry at parameters =
    either (eqb (location_of entry) 34736) (double_in entry parameters) (text_in entry at parameters)

unfoldable pub in_parameters : Bytes → Bytes → Option ℕ → GeoKey
in_parameters s entry none = Refused 45
in_parameters s entry (some at) = in_payload entry at (payload_at s at)

unfoldable pub from_entry : Bytes → Option Bytes → GeoKey
from_entry s none = Refused 42
from_entry s (some entry) =
    answer_if (first_failing (entry_checks entry))
    (either (eqb (location_of entry) 0) (Value (offset_of entry))
    (in_parameters s entry (projection_place s (location_of entry))))

-- ---- the directory of a file: the payload of its first record "LASF_Projection" 34735

unfoldable pub payload_in : Bytes → Option ℕ → Option Bytes
payload_in s none = none
payload_in s (some at) = some (payload_at s at)

unfoldable pub directory_of : Bytes → Option Bytes
directory_of s = payload_in s (projection_place s 34735)

-- 40, where there is none, and 41
unfoldable pub directory_verdict : Option Bytes → Verdict
directory_verdict none = Fails 40
directory_verdict (some directory) = first_failing (directory_checks directory)

unfoldable pub entries_in : Option Bytes → List Bytes
entries_in none = []
entries_in (some directory) = entries directory

-- what is searched for a key
unfoldable pub searched : Bytes → List Bytes
searched s = entries_in (directory_of s)

-- ---- a lookup checks the file, then 40 to 46

-- what is checked before a search: the file, then 40 and 41
unfoldable pub search_verdict : Bytes → Verdict
search_verdict s = then (file_verdict s) (directory_verdict (directory_of s))

unfoldable pub lookup : Bytes → ℕ → GeoKey
lookup s key = answer_if (search_verdict s) (from_entry s (entry_of (searched s) key))
