-- What the code of a release answers, in the words of the definitions.
-- Assumes nothing.
use Rattle.std.specs.Prelude.{ℕ, List, ◌++◌, codes, decimal, Result, Ok, Err}
use Rattle.fields.specs.Refusals.{refusal_number, refusal_words}
use Rattle.publicpart.specs.Release.{Answer, Short}
use Rattle.publicpart.specs.Release as answer
use Rattle.publicpart.specs.declared.Released.{Released}
use Rattle.publicpart.specs.declared.ReleaseError.{ReleaseError}
use Rattle.publicpart.specs.declared.ReleaseError.TheVariants.{Refused, OutputTooShort}

-- the number that docs/SPECIFICATION.md gives for it
abbrev pub error_number : ReleaseError → ℕ
error_number (Refused r) = refusal_number r
error_number (OutputTooShort n) = 30

-- what is printed of it
abbrev pub error_words : ReleaseError → List ℕ
error_words (Refused r) = refusal_words r
error_words (OutputTooShort n) = codes "output shorter than the released file" ++ (codes " of " ++ (decimal n ++ codes " bytes"))

abbrev pub refused_as : ReleaseError → Answer
refused_as (Refused r) = answer.Refused (refusal_number r)
refused_as (OutputTooShort n) = Short n

-- what was released, as an answer
abbrev pub taken : Released → Answer
taken r = answer.Released r.length r.points r.records

abbrev pub answer_of : Result Released ReleaseError → Answer
answer_of (Ok r) = taken r
answer_of (Err e) = refused_as e
