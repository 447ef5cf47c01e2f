-- Answers of the library as the numbers that another language is given. On a refusal every field but `number` is 0; 30
-- also has the needed length.
-- Assumes nothing.
use Rattle.std.specs.Prelude.{ℕ, Bool, List, map}
use mir.Val.{bool_byte}
use Rattle.fields.specs.Checks.{number_of}
use Rattle.publicpart.specs.Release.{Answer}
use Rattle.publicpart.specs.Release as answer
use Rattle.publicpart.specs.Cutting.{Listed}
use Rattle.publicpart.specs.Cutting as listed
use Rattle.sheet.specs.Keeping.{Kept, Yes, No, Refused}
use Rattle.sheet.specs.Tests.{Tested}
use Rattle.sheet.specs.Tests as tested
use Rattle.editor.specs.Mend.{Mended}
use Rattle.capi.specs.declared.answers.las_released.{las_released}
use Rattle.capi.specs.declared.answers.las_listed.{las_listed}
use Rattle.capi.specs.declared.answers.las_kept.{las_kept}
use Rattle.capi.specs.declared.answers.las_class_line.{las_class_line}
use Rattle.capi.specs.declared.answers.las_mended.{las_mended}

-- the four numbers of a release: 0, file length, kept points, kept records
unfoldable pub released_numbers : Answer → las_released
released_numbers (answer.Released n points records) = record { number = 0; length = n; points = points; records = records }
released_numbers (answer.Short needed) = record { number = 30; length = needed; points = 0; records = 0 }
released_numbers (answer.Refused n) = record { number = n; length = 0; points = 0; records = 0 }

-- 0 and the number of lines
unfoldable pub listed_numbers : Listed → las_listed
listed_numbers (listed.Lines n) = record { number = 0; lines = n }
listed_numbers (listed.Refused n) = record { number = n; lines = 0 }

unfoldable pub kept_numbers : Kept → las_kept
kept_numbers Yes = record { number = 0; kept = 1 }
kept_numbers No = record { number = 0; kept = 0 }
kept_numbers (Refused n) = record { number = n; kept = 0 }

-- 0, whether the class is held, and the lines looked at for it
unfoldable pub tested_numbers : Tested → las_class_line
tested_numbers (tested.Held n) = record { number = 0; kept = 1; lines = n }
tested_numbers (tested.NotHeld n) = record { number = 0; kept = 0; lines = n }
tested_numbers (tested.Refused n) = record { number = n; kept = 0; lines = 0 }

-- a mark is 1 for yes
unfoldable pub mark_numbers : List Bool → List ℕ
mark_numbers ms = map bool_byte ms

-- the verdict's number, and the twelve marks
unfoldable pub mended_numbers : Mended → las_mended
mended_numbers m = record { number = number_of m.verdict; marks = mark_numbers m.marks }
