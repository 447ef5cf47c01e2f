-- Laws of fields written at a place that a format has or lacks.
-- Assumes nothing.
use mathlib.Core.Path.{◌≡◌, refl}
use Prim.Native.Nat.{ℕ}
use mathlib.Core.List.{List}
use Rattle.std.specs.Prelude.{Option, Some, None}
use Rattle.fields.specs.Bytes.{Bytes, join}
use Rattle.points.specs.Encoding.{if_placed, stored_at}

-- bytes that are those of fields which the format has or lacks
pub placed : (place : Option ℕ) (fs : List Bytes) (b room : Bytes) → b ≡ join fs → stored_at place b room ≡ stored_at place (join (if_placed place fs)) room
unfolding stored_at if_placed
placed None fs b room e = refl
placed (Some at) fs b room e = rw e
