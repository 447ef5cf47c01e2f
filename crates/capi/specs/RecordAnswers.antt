-- What is found in a file's records, as the numbers that another language is given. On a refusal every field but
-- `number` is 0; 42 to 46 of a lookup by halving also have the entries read.
-- Assumes nothing.
use Rattle.std.specs.Prelude.{ℕ}
use Rattle.reader.specs.declared.cursor.RecordPlaces.{RecordPlaces}
use Rattle.reader.specs.declared.cursor.VlrCursor.{VlrCursor}
use Rattle.reader.specs.Steps.{Step, Record, Refused}
use Rattle.geokeys.specs.GeoKeys.{GeoKey}
use Rattle.geokeys.specs.GeoKeys as found
use Rattle.geokeys.specs.Halving.{KeyRead}
use Rattle.capi.specs.declared.vlr.las_record.{las_record}
use Rattle.capi.specs.declared.vlr.las_geokey.{las_geokey}
use Rattle.capi.specs.declared.vlr.las_geokey_read.{las_geokey_read}

-- a record's places, and the cursor after it
unfoldable pub found_record : RecordPlaces → VlrCursor → las_record
found_record r next =
    record {
      number = 0;
      user_place = r.user_place;
      user_length = r.user_length;
      record_id = r.record_id;
      description_place = r.description_place;
      description_length = r.description_length;
      payload_place = r.payload_place;
      payload_length = r.payload_length;
      next_index = next.index;
      next_position = next.position;
    }

unfoldable pub no_record : ℕ → las_record
no_record n =
    record {
      number = n;
      user_place = 0;
      user_length = 0;
      record_id = 0;
      description_place = 0;
      description_length = 0;
      payload_place = 0;
      payload_length = 0;
      next_index = 0;
      next_position = 0;
    }

unfoldable pub record_numbers : Step → las_record
record_numbers (Record r next) = found_record r next
record_numbers (Refused n) = no_record n

-- the location and two numbers: a value and 0, a double's 64 bits and 0, a text's place in the file and its length
unfoldable pub geokey_numbers : GeoKey → las_geokey
geokey_numbers (found.Value v) = record { number = 0; location = 0; value = v; length = 0 }
geokey_numbers (found.Double bits) = record { number = 0; location = 34736; value = bits; length = 0 }
geokey_numbers (found.Text at n) = record { number = 0; location = 34737; value = at; length = n }
geokey_numbers (found.Refused n) = record { number = n; location = 0; value = 0; length = 0 }

-- the same numbers, and the entries read, also beside 42 to 46
unfoldable pub read_numbers : KeyRead → las_geokey_read
read_numbers r =
    let g = geokey_numbers r.found in
    record { number = g.number; location = g.location; value = g.value; length = g.length; reads = r.reads }
