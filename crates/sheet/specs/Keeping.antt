-- What a keep sheet keeps: classes, places, points and records; and the class test.
-- Assumes nothing.
use Rattle.std.specs.Prelude.{ℕ, suc, ◌<◌, Bool, ◌&&◌, ◌||◌, not, true, false, leb, eqb, ℤ, ◌≡◌, List, [], ◌∷◌, get_or}
use Rattle.std.specs.Int.Signed.{le_z}
use Rattle.fields.specs.Lists.{any_of}
use Rattle.fields.specs.Bytes.{Bytes, same}
use Rattle.points.specs.Raw.{class_in, withheld_in, class_byte, class_of, withheld_of, stored}
use Rattle.fields.specs.Text.{cut}
use Rattle.sheet.specs.Sheet.{kind, lowest, highest, user_id, record_id, low, high, on_every_axis, lines, sheet_verdict}
use Rattle.fields.specs.Checks.{Verdict, Passes, Fails}
use Rattle.sheet.specs.Tests.{Tested}
use Rattle.sheet.specs.Tests as tested
use Rattle.sheet.specs.declared.lookup.Searched.{Searched}

unfoldable pub contains_class : Bytes → ℕ → Bool
contains_class l c = eqb (kind l) 1 && (leb (lowest l) c && leb c (highest l))

-- a record by its cut user ID and its ID
unfoldable pub names_record : Bytes → Bytes → ℕ → Bool
names_record l user id = eqb (kind l) 2 && (same (user_id l) user && eqb (record_id l) id)

-- whether a stored value is from low to high, both included
unfoldable pub in_range : ℤ → ℤ → ℤ → Bool
in_range from to z = le_z from z && le_z z to

-- whether a line is a box
unfoldable pub is_box : Bytes → Bool
is_box l = eqb (kind l) 3

-- a point by its bytes: on every axis its stored value is from the box's low to its high, edges included
unfoldable pub in_box : Bytes → Bytes → Bool
in_box l p = on_every_axis (λ axis. in_range (low axis l) (high axis l) (stored axis p))

unfoldable pub contains_point : Bytes → Bytes → Bool
contains_point l p = is_box l && in_box l p

unfoldable pub keeps_class : Bytes → ℕ → Bool
keeps_class sheet c = any_of (λ l. contains_class l c) (lines sheet)

-- whether any box stands on a sheet
unfoldable pub has_box : Bytes → Bool
has_box sheet = any_of is_box (lines sheet)

-- a point by its bytes: where any box stands, it lies in one of them
unfoldable pub keeps_place : Bytes → Bytes → Bool
keeps_place sheet p = not (has_box sheet) || any_of (λ l. contains_point l p) (lines sheet)

-- a point by its format and bytes: its class is kept, it is not withheld, and its place is kept
unfoldable pub keeps_point : Bytes → ℕ → Bytes → Bool
keeps_point sheet f p = keeps_class sheet (class_of f p) && (not (withheld_of f p) && keeps_place sheet p)

unfoldable pub keeps_record : Bytes → Bytes → ℕ → Bool
keeps_record sheet user id = any_of (λ l. names_record l user id) (lines sheet)

-- ---- the answer, the sheet's checks first

-- what a sheet says of a class or a record; its number, where the sheet fails
pub data Kept : Type 0 where
  Yes : Kept
  No : Kept
  Refused : ℕ → Kept

-- yes or no
abbrev pub kept_by : Bool → Kept
kept_by true = Yes
kept_by false = No

-- the answer under a sheet: its number where a check fails, else whether something is kept
unfoldable pub kept_under : Verdict → Bool → Kept
kept_under (Fails n) kept = Refused n
kept_under Passes true = Yes
kept_under Passes false = No

-- of a class
abbrev pub class_kept : Bytes → ℕ → Kept
class_kept sheet c = kept_under (sheet_verdict sheet) (keeps_class sheet c)

-- of a record, by its user ID, which is cut as any text, and its record ID
abbrev pub record_kept : Bytes → Bytes → ℕ → Kept
record_kept sheet user id = kept_under (sheet_verdict sheet) (keeps_record sheet (cut user) id)

-- ---- the class test: the lines that are looked at for a class

-- 0 if something is so, else a number
unfoldable pub unless : Bool → ℕ → ℕ
unless true n = 0
unless false n = n

-- how many lines there are up to and with the first that passes a test, or in all if none does
unfoldable pub up_to_first : (Bytes → Bool) → List Bytes → ℕ
up_to_first p [] = 0
up_to_first p (l ∷ ls) = suc (unless (p l) (up_to_first p ls))

-- how many lines, of any kind, are looked at for a class
unfoldable pub lines_for : Bytes → ℕ → ℕ
lines_for sheet c = up_to_first (λ l. contains_class l c) (lines sheet)

-- the answer under a sheet: its number where a check fails, else whether the class is held, and the lines looked at
unfoldable pub tested_under : Verdict → Bool → ℕ → Tested
tested_under (Fails n) held looked = tested.Refused n
tested_under Passes true looked = tested.Held looked
tested_under Passes false looked = tested.NotHeld looked

abbrev pub class_test : Bytes → ℕ → Tested
class_test sheet c = tested_under (sheet_verdict sheet) (keeps_class sheet c) (lines_for sheet c)

-- ---- a table by the classification byte, which a release makes once

-- a point by its format and classification byte, wherever it lies
unfoldable pub keeps_byte : Bytes → ℕ → ℕ → Bool
keeps_byte sheet f b = keeps_class sheet (class_in f b) && not (withheld_in f b)

-- a table of the points of format f that a sheet keeps: entry b is for classification byte b
abbrev pub TableOf : Bytes → ℕ → List Bool → Type 0
TableOf sheet f table = (b : ℕ) → b < 256 → get_or table b false ≡ keeps_byte sheet f b

-- whether a table keeps a point, by its format and bytes, wherever it lies
unfoldable pub in_table : List Bool → ℕ → Bytes → Bool
in_table table f p = get_or table (class_byte f p) false

-- ---- what the code's search comes to; no public contract cites it

unfoldable pub search_of : (Bytes → Bool) → List Bytes → Searched
search_of p ls = record { found = any_of p ls; lines = up_to_first p ls }
