-- The numbers that the functions give, as tables of checks in the specification's order, and what it means that a table
-- gives a number.
-- Assumes nothing.
use Rattle.std.specs.Prelude.{◌≡◌, ◌↔◌, ℕ, zero, suc, Bool, true, false, List, [], ◌∷◌, ◌++◌, length, eqb}
use Rattle.std.proofs.Math.Option.{Option, none, some}
use Rattle.fields.specs.Bytes.{Bytes}
use Rattle.fields.specs.Checks.{Test, Clear, Check, AllClear, ◌below◌, not_so}
use Rattle.lasfile.specs.FileChecks.{file_checks}
use Rattle.sheet.specs.Sheet.{line_checks, after_line}
use Rattle.geokeys.specs.GeoKeys.{projection_place, payload_at, directory_checks, entry_of, entry_checks, location_of, double_checks, text_checks, directory_of, searched}
use Rattle.geokeys.specs.Halving.{halve}
use Rattle.publicpart.specs.declared.Span.{Span}
use Rattle.theorems.specs.Terms.{needed, enough}

-- ---- what a table gives

pub record Given (cs : List Check) (n : ℕ) : Type 0 where
  -- the table has a check with the number n
  pub before : List Check
  pub test : Test
  pub after : List Check
  pub table : cs ≡ before ++ (n, test) ∷ after
  -- every check before it is clear
  pub earlier : AllClear before
  -- and its own condition holds
  pub own : Clear test → ⊥

-- a number that a function gives follows a table
pub record ByTable (number : ℕ) (cs : List Check) : Type 0 where
  -- a number above 0 is given exactly under its own condition where no earlier one holds
  pub refuses : (n : ℕ) → (number ≡ suc n) ↔ Given cs (suc n)
  -- 0 is given exactly where no condition holds
  pub accepts : (number ≡ 0) ↔ AllClear cs

-- ---- the sheet, 20 to 24: line by line, where at most n more may begin

unfoldable pub lines_checks : ℕ → Bytes → List Check
lines_checks zero s = (24, 0 below length s) ∷ []
lines_checks (suc n) [] = []
lines_checks (suc n) (b ∷ bs) = line_checks (b ∷ bs) ++ lines_checks n (after_line (b ∷ bs))

unfoldable pub sheet_checks : Bytes → List Check
sheet_checks = lines_checks 64

-- ---- a lookup, 40 to 46: each table goes on with what was found

unfoldable pub is_some : {A : Type 0} → Option A → Bool
is_some none = false
is_some (some x) = true

unfoldable pub chosen : Bool → List Check → List Check → List Check
chosen true cs ds = cs
chosen false cs ds = ds

-- 46, of an entry and the place of its parameter record
unfoldable pub value_checks : Bytes → Bytes → Option ℕ → List Check
value_checks s entry none = []
value_checks s entry (some at) =
    chosen (eqb (location_of entry) 34736) (double_checks entry (payload_at s at)) (text_checks entry (payload_at s at))

-- 45 and 46, of an entry whose value stands elsewhere
unfoldable pub parameter_checks : Bytes → Bytes → Option ℕ → List Check
parameter_checks s entry place = (45, not_so (is_some place)) ∷ value_checks s entry place

-- 43 to 46, of an entry
unfoldable pub entry_table : Bytes → Option Bytes → List Check
entry_table s none = []
entry_table s (some entry) =
    entry_checks entry
    ++ chosen (eqb (location_of entry) 0) [] (parameter_checks s entry (projection_place s (location_of entry)))

-- 42 to 46, of the key's entry, if there is one
unfoldable pub key_table : Bytes → Option Bytes → List Check
key_table s entry = (42, not_so (is_some entry)) ∷ entry_table s entry

-- 41, of the directory, if there is one
unfoldable pub directory_table : Option Bytes → List Check
directory_table none = []
directory_table (some directory) = directory_checks directory

-- 40 to 46, of the entry that a search in the file's directory found
unfoldable pub search_checks : Bytes → Option Bytes → List Check
search_checks s entry = (40, not_so (is_some (directory_of s))) ∷ (directory_table (directory_of s) ++ key_table s entry)

-- the first entry of the key
unfoldable pub lookup_checks : Bytes → ℕ → List Check
lookup_checks s key = search_checks s (entry_of (searched s) key)

-- the entry that halving comes to
unfoldable pub halving_checks : Bytes → ℕ → List Check
halving_checks s key = search_checks s (halve (searched s) key).entry

-- ---- the release: file (1 to 10), sheet (20 to 24), room (30)

unfoldable pub release_checks : Bytes → Bytes → Bytes → List Check
release_checks sheet file out = file_checks file ++ (sheet_checks sheet ++ (30, length out below needed sheet file) ∷ [])

-- ---- the cutting list: file (1 to 10), sheet (20 to 24), list (31); and the release from it, with room (30) last

unfoldable pub list_checks : Bytes → Bytes → List Span → List Check
list_checks sheet file list = file_checks file ++ (sheet_checks sheet ++ (31, length list below enough sheet file) ∷ [])

unfoldable pub by_list_checks : Bytes → Bytes → Bytes → List Span → List Check
by_list_checks sheet file out list =
    file_checks file
    ++ (sheet_checks sheet ++ (31, length list below enough sheet file) ∷ (30, length out below needed sheet file) ∷ [])
