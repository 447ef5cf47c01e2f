-- Number 9 is that of one refusal alone.
-- Assumes nothing.
use mathlib.Core.Path.{◌≡◌, refl}
use native.Mathlib.Omega.{arith}
use Rattle.fields.specs.Refusals.{refusal_number}
use Rattle.fields.specs.declared.refusal.Refusal.{Refusal}
use Rattle.fields.specs.declared.refusal.Refusal.TheVariants.{FileTooShort, BadSignature, BadVersion, BadHeaderSize, BadFormat, BadRecordLength, BadPointOffset, RecordsPastOffset, PointsPastEnd, BadScaling, NoPoint, BadShape, FieldTooLarge, NoRecord, BadMark, BadKind, LineCut, LowAboveHigh, TooManyLines, OutputTooShort, ListTooShort, NoDirectory, BadDirectory, NoKey, BadLocation, BadCount, NoParameters, ValuePastEnd, InputTooLong, FileFailed}

pub only_9 : (r : Refusal) → refusal_number r ≡ 9 → r ≡ PointsPastEnd
only_9 FileTooShort e = absurd (omega arith)
only_9 BadSignature e = absurd (omega arith)
only_9 BadVersion e = absurd (omega arith)
only_9 BadHeaderSize e = absurd (omega arith)
only_9 BadFormat e = absurd (omega arith)
only_9 BadRecordLength e = absurd (omega arith)
only_9 BadPointOffset e = absurd (omega arith)
only_9 RecordsPastOffset e = absurd (omega arith)
only_9 PointsPastEnd e = refl
only_9 BadScaling e = absurd (omega arith)
only_9 NoPoint e = absurd (omega arith)
only_9 BadShape e = absurd (omega arith)
only_9 FieldTooLarge e = absurd (omega arith)
only_9 NoRecord e = absurd (omega arith)
only_9 BadMark e = absurd (omega arith)
only_9 BadKind e = absurd (omega arith)
only_9 LineCut e = absurd (omega arith)
only_9 LowAboveHigh e = absurd (omega arith)
only_9 TooManyLines e = absurd (omega arith)
only_9 OutputTooShort e = absurd (omega arith)
only_9 ListTooShort e = absurd (omega arith)
only_9 NoDirectory e = absurd (omega arith)
only_9 BadDirectory e = absurd (omega arith)
only_9 NoKey e = absurd (omega arith)
only_9 BadLocation e = absurd (omega arith)
only_9 BadCount e = absurd (omega arith)
only_9 NoParameters e = absurd (omega arith)
only_9 ValuePastEnd e = absurd (omega arith)
only_9 InputTooLong e = absurd (omega arith)
only_9 FileFailed e = absurd (omega arith)
