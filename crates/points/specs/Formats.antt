-- The four point formats: record sizes, and the places of GPS time and colour.
-- Assumes nothing.
use Rattle.std.specs.Prelude.{ℕ, [], ◌∷◌, get_or, Option, Some, None}
use Rattle.points.specs.declared.layouts.Layout.{Layout}

-- the size of a record: 20, 28, 26, 34 bytes for formats 0, 1, 2, 3
unfoldable pub format_size : ℕ → ℕ
format_size f = get_or (20 ∷ 28 ∷ 26 ∷ 34 ∷ []) f 0

unfoldable pub time_place : ℕ → Option ℕ
time_place f = get_or (None ∷ Some 20 ∷ None ∷ Some 20 ∷ []) f None

unfoldable pub colour_place : ℕ → Option ℕ
colour_place f = get_or (None ∷ None ∷ Some 20 ∷ Some 28 ∷ []) f None

unfoldable pub layout_of : ℕ → Layout
layout_of f = record { size = format_size f; time = time_place f; colour = colour_place f }
