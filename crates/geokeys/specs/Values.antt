-- What the code answers, in the words of the definitions.
-- Assumes nothing.
use Rattle.fields.specs.Refusals.{by_number}
use Rattle.geokeys.specs.GeoKeys.{GeoKey, Value, Refused}
use Rattle.geokeys.specs.GeoKeys as key
use Rattle.geokeys.specs.Halving.{KeyRead}
use Rattle.geokeys.specs.declared.KeyValue.{KeyValue}
use Rattle.geokeys.specs.declared.KeyValue.TheVariants.{Number, Double, Text}
use Rattle.geokeys.specs.declared.halving.KeyRead as halving

abbrev pub geokey_of : KeyValue → GeoKey
geokey_of (Number n) = Value n
geokey_of (Double bits) = key.Double bits
geokey_of (Text at length) = key.Text at length

abbrev pub read_of : halving.KeyRead → KeyRead
read_of r = record { found = by_number geokey_of Refused r.found; reads = r.reads }
