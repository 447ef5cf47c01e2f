-- What is proved of decoding and encoding, for every format: bytes come back from their fields, fields from their
-- bytes, and extra bytes stay.
-- Assumes nothing.
use Rattle.std.specs.Prelude.{◌≡◌, ℕ, length, drop}
use Rattle.fields.specs.Bytes.{Bytes, AllBytes}
use Rattle.fields.specs.Checks.{Passes}
use Rattle.points.specs.Formats.{format_size}
use Rattle.points.specs.declared.Point.{Point}
use Rattle.points.specs.Points.{Fields, decoded}
use Rattle.points.specs.Encoding.{encoded, blank, InRange}

pub record RoundTrips : Type 0 where
  -- a record that is decoded and encoded over a room with the same extra bytes is the record again
  pub encode_after_decode : (f len : ℕ) (bytes room : Bytes) (q : Point) → AllBytes bytes
      → decoded f len bytes ≡ Fields q
      → length room ≡ length bytes → drop (format_size f) room ≡ drop (format_size f) bytes
      → encoded f len q room ≡ (Passes, bytes)
  -- a point that is encoded and decoded is the point again, with the fields that the format lacks at 0
  pub decode_after_encode : (f len : ℕ) (room : Bytes) (q : Point) → InRange q → (encoded f len q room).0 ≡ Passes
      → decoded f len (encoded f len q room).1 ≡ Fields (blank f q)
  -- the bytes of the room behind the format's size stay as they were
  pub extra_stay : (f len : ℕ) (q : Point) (room : Bytes) → (encoded f len q room).0 ≡ Passes
      → drop (format_size f) (encoded f len q room).1 ≡ drop (format_size f) room
