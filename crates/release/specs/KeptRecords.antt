-- What the records that a sheet keeps come to.
-- Assumes nothing.
use Rattle.std.specs.Prelude.{List, ◌++◌, ◌+◌, length}
use Rattle.fields.specs.Lists.{total}
use Rattle.lasfile.specs.HeaderFields.{header_block}
use Rattle.lasfile.specs.Records.{Record, written_length}
use Rattle.release.specs.declared.vlrs.KeptRecords.{KeptRecords}
use Rattle.fields.specs.Bytes.{Bytes, bytes_of, zeros}
use Rattle.fields.specs.Text.{padded}

-- how many records, and where they end in a released file, behind the header
unfoldable pub measured : List Record → KeptRecords
measured rs = record { count = length rs; end = header_block + total (written_length 2) rs }

-- ---- the two parts in which a record is written

-- what a sheet names it by: reserved 0, user ID, record ID
unfoldable pub name_bytes : Record → Bytes
name_bytes r = zeros 2 ++ (padded 16 r.user ++ bytes_of 2 r.id)

-- what it holds: payload length, description, payload
unfoldable pub content_bytes : Record → Bytes
content_bytes r = bytes_of 2 (length r.payload) ++ (padded 32 r.description ++ r.payload)
