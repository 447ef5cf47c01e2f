-- A law of a layout and its parts.
-- Assumes nothing.
use mathlib.Core.Path.{◌≡◌}
use Prim.Native.Nat.{ℕ}
use Rattle.points.specs.Formats.{format_size, layout_of}
use Rattle.points.specs.declared.layouts.Layout.{Layout}

-- the size of a layout
pub size_is : (l : Layout) (f k : ℕ) → l ≡ layout_of f → f ≡ k → l.size ≡ format_size k
unfolding layout_of
size_is l f k e h = rw (e, h)
