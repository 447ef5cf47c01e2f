-- `geokeys::halving::in_directory` meets its contract. Assumes nothing.
use mathlib.Core.Path.{◌≡◌, refl, ap, ◌∙◌}
use mathlib.Core.List.{List}
use Prim.Native.Nat.{ℕ}
use Rattle.fields.specs.Bytes.{Bytes}
use Rattle.geokeys.specs.GeoKeys.{entries, from_entry, GeoKey}
use Rattle.geokeys.specs.Halving.{halve, key_read}
use Rattle.geokeys.specs.Places.{entry_in, halved_in}
use Rattle.geokeys.specs.declared.halving.Search.{Search}
use Rattle.geokeys.proofs.halving.in_directory.Goals as goal

-- the answer by what the search found
by_search : (s d : Bytes) (key : ℕ) (es : List Bytes) (r : Search) (g : GeoKey) → es ≡ entries d → halved_in r ≡ halve es key → g ≡ from_entry s (entry_in r.found)
    → record { found = g; reads = r.reads } ≡ key_read s (halve (entries d) key)
unfolding key_read halved_in
by_search s d key es r g are e h = rw h (ap (key_read s) (e ∙ rw are refl))

pub returns : goal.returns
returns c = by_search _ _ _ _ _ _ c.entries.ensures.0 c.halve-search.ensures c.at_entry.ensures
