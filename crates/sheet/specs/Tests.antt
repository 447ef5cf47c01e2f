-- What a class test gives.
-- Assumes nothing.
use Rattle.std.specs.Prelude.{ℕ, Bool, true, false}
use Rattle.sheet.specs.declared.lookup.Searched.{Searched}

-- whether a line holds a class, with the number of lines looked at for it; the sheet's number, where it fails
pub data Tested : Type 0 where
  Held : ℕ → Tested
  NotHeld : ℕ → Tested
  Refused : ℕ → Tested

abbrev pub tested_if : Bool → ℕ → Tested
tested_if true lines = Held lines
tested_if false lines = NotHeld lines

-- what a search came to
abbrev pub tested_by : Searched → Tested
tested_by s = tested_if s.found s.lines
