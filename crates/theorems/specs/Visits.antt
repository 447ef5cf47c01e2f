-- What is proved of stepping: from (0, header size) it visits exactly the file's records, in order, and then gives 18.
-- Assumes nothing.
use Rattle.std.specs.Prelude.{◌≡◌, ℕ, suc, ◌+◌, map}
use Rattle.fields.specs.Bytes.{Bytes, part}
use Rattle.fields.specs.Checks.{Passes}
use Rattle.lasfile.specs.Records.{record_at, places}
use Rattle.lasfile.specs.HeaderFields.{header_size, record_count}
use Rattle.lasfile.specs.FileChecks.{file_verdict}
use Rattle.reader.specs.Steps.{record_places, step_of, visited, Refused}
use Rattle.reader.specs.declared.cursor.RecordPlaces.{RecordPlaces}
use Rattle.reader.specs.declared.cursor.VlrCursor.{VlrCursor}

abbrev pub cursor : ℕ → ℕ → VlrCursor
cursor index position = record { index = index; position = position }

-- what the places r that a step answers mean, of the record at a place of the file
pub record Means (s : Bytes) (at : ℕ) (r : RecordPlaces) : Type 0 where
  -- its user ID
  pub user : part r.user_place r.user_length s ≡ (record_at 2 s at).user
  -- its record ID
  pub id : r.record_id ≡ (record_at 2 s at).id
  -- its description
  pub description : part r.description_place r.description_length s ≡ (record_at 2 s at).description
  -- its payload
  pub payload : part r.payload_place r.payload_length s ≡ (record_at 2 s at).payload

pub record Visits : Type 0 where
  -- stepping on from (0, header size), at least one step more than there are records, visits the counted records in
  -- order
  pub visits : (s : Bytes) → file_verdict s ≡ Passes → (m : ℕ)
      → visited (record_count s + suc m) s (cursor 0 (header_size s))
      ≡ map (record_places s) (places 2 (record_count s) (header_size s) s)
  -- where no record is left, a step gives 18
  pub ends_in_18 : (s : Bytes) → file_verdict s ≡ Passes → (position : ℕ)
      → step_of s (record_count s) position ≡ Refused 18
  -- the places that a step answers are those of the record's texts and payload
  pub places_mean : (s : Bytes) (at : ℕ) → Means s at (record_places s at)
