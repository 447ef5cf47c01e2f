-- Refusals of the code, and the numbers and words that they stand for.
-- Assumes nothing.
use Rattle.std.specs.Prelude.{ℕ, List, codes, Result, Ok, Err, ⊤}
use Rattle.fields.specs.Checks.{Verdict, Passes, Fails}
use Rattle.fields.specs.declared.refusal.Refusal.{Refusal}
use Rattle.fields.specs.declared.refusal.Refusal.TheVariants.{FileTooShort, BadSignature, BadVersion, BadHeaderSize, BadFormat, BadRecordLength, BadPointOffset, RecordsPastOffset, PointsPastEnd, BadScaling, NoPoint, BadShape, FieldTooLarge, NoRecord, BadMark, BadKind, LineCut, LowAboveHigh, TooManyLines, OutputTooShort, ListTooShort, NoDirectory, BadDirectory, NoKey, BadLocation, BadCount, NoParameters, ValuePastEnd, InputTooLong, FileFailed}

-- the number that docs/SPECIFICATION.md gives for a refusal
abbrev pub refusal_number : Refusal → ℕ
refusal_number FileTooShort = 1
refusal_number BadSignature = 2
refusal_number BadVersion = 3
refusal_number BadHeaderSize = 4
refusal_number BadFormat = 5
refusal_number BadRecordLength = 6
refusal_number BadPointOffset = 7
refusal_number RecordsPastOffset = 8
refusal_number PointsPastEnd = 9
refusal_number BadScaling = 10
refusal_number NoPoint = 11
refusal_number BadShape = 12
refusal_number FieldTooLarge = 13
refusal_number NoRecord = 18
refusal_number BadMark = 20
refusal_number BadKind = 21
refusal_number LineCut = 22
refusal_number LowAboveHigh = 23
refusal_number TooManyLines = 24
refusal_number OutputTooShort = 30
refusal_number ListTooShort = 31
refusal_number NoDirectory = 40
refusal_number BadDirectory = 41
refusal_number NoKey = 42
refusal_number BadLocation = 43
refusal_number BadCount = 44
refusal_number NoParameters = 45
refusal_number ValuePastEnd = 46
refusal_number InputTooLong = 50
refusal_number FileFailed = 51

-- what is printed of it
abbrev pub refusal_words : Refusal → List ℕ
refusal_words FileTooShort = codes "fewer than 227 bytes"
refusal_words BadSignature = codes "signature is not \"LASF\""
refusal_words BadVersion = codes "version is not 1.2"
refusal_words BadHeaderSize = codes "header size out of range"
refusal_words BadFormat = codes "point format above 3"
refusal_words BadRecordLength = codes "record length below the format's size"
refusal_words BadPointOffset = codes "point offset out of range"
refusal_words RecordsPastOffset = codes "a record runs past the point offset"
refusal_words PointsPastEnd = codes "the points run past the file's end"
refusal_words BadScaling = codes "a scale or an offset out of range"
refusal_words NoPoint = codes "no such point"
refusal_words BadShape = codes "wrong length for a point"
refusal_words FieldTooLarge = codes "field too large to encode"
refusal_words NoRecord = codes "no record at that index and position"
refusal_words BadMark = codes "sheet line with a wrong mark"
refusal_words BadKind = codes "sheet line of an unknown kind"
refusal_words LineCut = codes "sheet line cut short"
refusal_words LowAboveHigh = codes "sheet line with its low above its high"
refusal_words TooManyLines = codes "more than 64 sheet lines"
refusal_words OutputTooShort = codes "output shorter than the released file"
refusal_words ListTooShort = codes "list shorter than the kept records and points"
refusal_words NoDirectory = codes "no GeoKey directory"
refusal_words BadDirectory = codes "unsound GeoKey directory"
refusal_words NoKey = codes "key not in the directory"
refusal_words BadLocation = codes "unknown key location"
refusal_words BadCount = codes "key count is not 1"
refusal_words NoParameters = codes "parameter record absent"
refusal_words ValuePastEnd = codes "value runs past its record"
refusal_words InputTooLong = codes "more than 32,768 bytes"
refusal_words FileFailed = codes "not opened, read or written"

-- an answer in the words of the definitions: what is made of a value, and of the number of a refusal
abbrev pub by_number : {A R : Type 0} → (A → R) → (ℕ → R) → Result A Refusal → R
by_number given refused (Ok x) = given x
by_number given refused (Err r) = refused (refusal_number r)

-- the verdict of a check
abbrev pub verdict_of : Result ⊤ Refusal → Verdict
verdict_of = by_number (λ passed. Passes) Fails
