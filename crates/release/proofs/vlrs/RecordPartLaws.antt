-- Laws of a record that bytes begin with, whether or not it is whole: that it can be written, and that the two parts
-- make it up.
-- Assumes nothing.
use mathlib.Core.Path.{◌≡◌, refl, ◌∙◌}
use Prim.Native.Nat.{◌^◌, ◌<◌}
use native.Mathlib.Omega.{arith}
use mathlib.Core.List.{◌++◌, append_assoc, append-nil}
use lib.ListN.{length, length-append}
use lib.Seq.{sets}
use Rattle.fields.specs.Bytes.{Bytes, AllBytes, part, num, bytes_of, zeros, join}
use Rattle.fields.specs.Text.{padded}
use Rattle.fields.proofs.ByteLaws.{num-part-lt, length-part-le, length-bytes_of, length-join}
use Rattle.fields.specs.Lists.{total}
use Rattle.fields.proofs.TextLaws.{held, length-padded}
use Rattle.fields.proofs.StoreLaws.{store_behind}
use Rattle.lasfile.specs.Records.{Record, record_widths, record_fields, record_of, record_bytes, written_length, SoundRecord}
use Rattle.lasfile.proofs.vlr.FieldLaws.{user_of, id_of, description_of, payload_of, length_of}
use Rattle.release.specs.KeptRecords.{name_bytes, content_bytes}

-- what it is written as, of any bytes
pub length-written : (v : Bytes) → length (record_bytes 2 (record_of 2 v)) ≡ written_length 2 (record_of 2 v)
unfolding record_bytes written_length total
length-written v =
    let r : Record = record_of 2 v in
    let user = length-padded 16 r.user (rw (user_of 2 v) (held 2 16 v).short) in
    let description = length-padded 32 r.description (rw (description_of 2 v) (held 22 32 v).short) in
    length-join (record_widths 2 (length r.payload)) (record_fields 2 r)
    (refl, (user, (length-bytes_of 2 r.id, (length-bytes_of 2 (length r.payload), (description, (refl, tt))))))
    ∙ omega arith

module _ (v : Bytes) (bytes : AllBytes v) where
  payload_low : length (record_of 2 v).payload < 256 ^ 2
  payload_low = rw (payload_of 2 v, length_of 2 v) (omega (arith, length-part-le 54 (num (part 20 2 v)) v, num-part-lt 20 2 v bytes))

  -- a record that is read can be written
  pub sound : SoundRecord 2 (record_of 2 v)
  sound =
      record {
        user = rw (user_of 2 v) (held 2 16 v);
        id = rw (id_of 2 v) (num-part-lt 18 2 v bytes);
        description = rw (description_of 2 v) (held 22 32 v);
        payload = payload_low;
      }

  pub length_low : written_length 2 (record_of 2 v) < 2 ^ 17
  unfolding written_length
  length_low = omega (arith, payload_low)

-- ---- the two parts, each of three fields stored one behind the other

module _ (d : Bytes) (r : Record) (h : SoundRecord 2 r) where
  pub name_stored : sets (sets (sets d 0 (bytes_of 2 0)) 2 (padded 16 r.user)) 18 (bytes_of 2 r.id) ≡ sets d 0 (name_bytes r)
  unfolding name_bytes bytes_of
  name_stored =
      store_behind _ 2 18 16 (padded 16 r.user) (bytes_of 2 r.id) (length-padded 16 r.user h.user.short) refl
      ∙ store_behind d 0 2 2 (zeros 2) (padded 16 r.user ++ bytes_of 2 r.id) refl refl

  pub content_stored : sets (sets (sets d 20 (bytes_of 2 (length r.payload))) 22 (padded 32 r.description)) 54 r.payload ≡ sets d 20 (content_bytes r)
  unfolding content_bytes
  content_stored =
      store_behind _ 22 54 32 (padded 32 r.description) r.payload (length-padded 32 r.description h.description.short) refl
      ∙ store_behind d 20 22 2 (bytes_of 2 (length r.payload)) (padded 32 r.description ++ r.payload) (length-bytes_of 2 (length r.payload)) refl

  name_length : length (name_bytes r) ≡ 20
  unfolding name_bytes
  name_length =
      simp (length-append, length-padded 16 r.user h.user.short, length-bytes_of 2 r.id) refl

  in_two : name_bytes r ++ content_bytes r ≡ record_bytes 2 r
  unfolding name_bytes content_bytes record_bytes join
  in_two = simp (append_assoc, append-nil)

  pub record_stored : sets (sets d 0 (name_bytes r)) 20 (content_bytes r) ≡ sets d 0 (record_bytes 2 r)
  record_stored = store_behind d 0 20 20 (name_bytes r) (content_bytes r) name_length refl ∙ rw in_two
