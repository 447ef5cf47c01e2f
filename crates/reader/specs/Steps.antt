-- One step of the walk over a file's variable length records.
-- Assumes nothing.
use Rattle.std.specs.Prelude.{ℕ, zero, suc, ◌+◌, List, [], ◌∷◌, length, drop, ltb}
use Rattle.fields.specs.Bytes.{Bytes, part, num}
use Rattle.fields.specs.Text.{cut}
use Rattle.fields.specs.Checks.{Check, first_failing, then, ◌below◌, not_so, ◌or◌, Verdict, Passes, Fails}
use Rattle.lasfile.specs.Records.{size_of, payload_length}
use Rattle.lasfile.specs.HeaderFields.{header_size, point_offset, record_count}
use Rattle.lasfile.specs.FileChecks.{file_verdict}
use Rattle.reader.specs.declared.cursor.RecordPlaces.{RecordPlaces}
use Rattle.reader.specs.declared.cursor.VlrCursor.{VlrCursor}

-- index not below the number of VLRs, position below the header size, or a record there would run past the point offset
abbrev pub step_checks : Bytes → ℕ → ℕ → List Check
step_checks s index position = (
  18,
  not_so (ltb index (record_count s))
      or (position below header_size s or point_offset s below position + size_of 2 (drop position s)),
)
    ∷ []

-- where the parts of the record at a place lie: cut texts, record ID, payload
unfoldable pub record_places : Bytes → ℕ → RecordPlaces
record_places s at =
    record {
      user_place = at + 2;
      user_length = length (cut (part (at + 2) 16 s));
      record_id = num (part (at + 18) 2 s);
      description_place = at + 22;
      description_length = length (cut (part (at + 22) 32 s));
      payload_place = at + 54;
      payload_length = payload_length 2 (drop at s);
    }

-- the index plus 1, and the place just after the record
unfoldable pub next_cursor : Bytes → ℕ → ℕ → VlrCursor
next_cursor s index position = record { index = index + 1; position = position + size_of 2 (drop position s) }

-- the record at a cursor, and the next cursor; or the number of a refusal
pub data Step : Type 0 where
  Record : RecordPlaces → VlrCursor → Step
  Refused : ℕ → Step

unfoldable pub record_if : Verdict → RecordPlaces → VlrCursor → Step
record_if Passes r c = Record r c
record_if (Fails n) r c = Refused n

-- it checks the file, then 18, and answers the record there
unfoldable pub step_of : Bytes → ℕ → ℕ → Step
step_of s index position =
    record_if (then (file_verdict s) (first_failing (step_checks s index position)))
    (record_places s position) (next_cursor s index position)

-- ---- stepping on until a refusal

unfoldable pub collect : Step → (VlrCursor → List RecordPlaces) → List RecordPlaces
collect (Record r c) later = r ∷ later c
collect (Refused n) later = []

-- the records that n steps visit, each from the cursor that the one before it answered
unfoldable pub visited : ℕ → Bytes → VlrCursor → List RecordPlaces
visited zero s c = []
visited (suc n) s c = collect (step_of s c.index c.position) (visited n s)
