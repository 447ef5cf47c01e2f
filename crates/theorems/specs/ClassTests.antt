-- What is proved of the class test: which line answers, how many lines are looked at, and that it says of a class what
-- the question whether it is kept says.
-- Assumes nothing.
use Rattle.std.specs.Prelude.{◌≡◌, ◌↔◌, ℕ, ◌+◌, ◌≤◌, Bool, true, false, List, ◌∷◌, ◌++◌, length}
use Rattle.fields.specs.Checks.{Passes, Fails}
use Rattle.fields.specs.Lists.{All}
use Rattle.fields.specs.Bytes.{Bytes}
use Rattle.sheet.specs.Sheet.{kind, lines, sheet_verdict}
use Rattle.sheet.specs.Keeping.{contains_class, class_kept, lines_for, class_test, Kept}
use Rattle.sheet.specs.Keeping as kept
use Rattle.sheet.specs.Tests.{Tested, Held, NotHeld, Refused}
use Rattle.capi.specs.Interface.{las_class_kept, las_class_test}
use Rattle.theorems.specs.Sheets.{SomeLine}

-- the first of some lines that passes a test is line n, counted from 1
pub record FirstThat (p : Bytes → Bool) (ls : List Bytes) (n : ℕ) : Type 0 where
  -- it is one of them
  pub before : List Bytes
  pub line : Bytes
  pub after : List Bytes
  pub whole : ls ≡ before ++ line ∷ after
  -- no line before it passes
  pub earlier : All (λ l. p l ≡ false) before
  -- it does
  pub own : p line ≡ true
  -- and with it they are n
  pub counted : n ≡ length before + 1

pub record LinesLookedAt : Type 0 where
  -- the class is held, and n lines were looked at, exactly if the sheet passes and line n is the first that contains it
  pub held : (sheet : Bytes) (c n : ℕ)
      → (class_test sheet c ≡ Held n)
      ↔ ((sheet_verdict sheet ≡ Passes) × FirstThat (λ l. contains_class l c) (lines sheet) n)
  -- it is not held exactly if the sheet passes and no line contains it; then all its lines were looked at
  pub not_held : (sheet : Bytes) (c n : ℕ)
      → (class_test sheet c ≡ NotHeld n)
      ↔ ((sheet_verdict sheet ≡ Passes)
      × All (λ l. contains_class l c ≡ false) (lines sheet)
      × (n ≡ length (lines sheet)))
  -- the whole sheet is checked, whichever line answers
  pub refused : (sheet : Bytes) (c n : ℕ) → (class_test sheet c ≡ Refused n) ↔ (sheet_verdict sheet ≡ Fails n)
  -- from 0 to 64 lines
  pub to_64 : (sheet : Bytes) (c : ℕ) → lines_for sheet c ≤ 64
  -- of a sheet that passes, the class is held exactly if some line contains it
  pub some_line : (sheet : Bytes) (c : ℕ) → sheet_verdict sheet ≡ Passes
      → (class_test sheet c ≡ Held (lines_for sheet c)) ↔ SomeLine (lines sheet) (λ l. contains_class l c ≡ true)
  -- a line of kind 2 or 3 never does
  pub never_kind_2 : (l : Bytes) (c : ℕ) → kind l ≡ 2 → contains_class l c ≡ false
  pub never_kind_3 : (l : Bytes) (c : ℕ) → kind l ≡ 3 → contains_class l c ≡ false

-- what the class test says, without the number of lines
unfoldable pub without_lines : Tested → Kept
without_lines (Held n) = kept.Yes
without_lines (NotHeld n) = kept.No
without_lines (Refused n) = kept.Refused n

pub record SaysWhatIsKept : Type 0 where
  -- the class test says yes or no, or refuses, as `class_kept` does
  pub agrees : (sheet : Bytes) (c : ℕ) → without_lines (class_test sheet c) ≡ class_kept sheet c
  -- and so do their numbers in other languages
  pub numbers_agree : (sheet : Bytes) (c : ℕ)
      → ((las_class_test sheet c).number ≡ (las_class_kept sheet c).number)
      × ((las_class_test sheet c).kept ≡ (las_class_kept sheet c).kept)
  -- and beside them, where the sheet passes, the lines looked at
  pub numbers_count : (sheet : Bytes) (c : ℕ) → sheet_verdict sheet ≡ Passes
      → (las_class_test sheet c).lines ≡ lines_for sheet c
