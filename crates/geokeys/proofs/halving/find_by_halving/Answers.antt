-- `geokeys::halving::find_by_halving` meets its contract. Assumes nothing.
use mathlib.Core.Path.{◌≡◌, sym, ap, ◌∙◌}
use mathlib.Core.List.{List}
use Prim.Native.Nat.{ℕ, ◌≤◌}
use mathlib.Core.Option.{some}
use native.Mathlib.Omega.{arith}
use Rattle.fields.specs.Bytes.{Bytes, AllBytes}
use Rattle.fields.specs.Checks.{Passes}
use Rattle.geokeys.specs.GeoKeys.{payload_at, entries, directory_of, search_verdict}
use Rattle.geokeys.specs.Halving.{halve, key_read, lookup_by_halving, KeyRead}
use Rattle.geokeys.proofs.SearchLaws.{room_for_entries, searched_is}
use Rattle.geokeys.proofs.KeyReadLaws.{read_passes, read_fails, at_most_13}
use Rattle.geokeys.proofs.halving.find_by_halving.Goals as goal

-- the answer where a directory is searched
in_directory : (s d : Bytes) (at key : ℕ) (r : KeyRead) → search_verdict s ≡ Passes → directory_of s ≡ some (payload_at s at) → d ≡ payload_at s at
    → r ≡ key_read s (halve (entries d) key) → r ≡ lookup_by_halving s key
unfolding lookup_by_halving
in_directory s d at key r passes found p e = e ∙ sym (read_passes _ _ passes ∙ ap (λ (es : List Bytes). key_read s (halve es key)) (searched_is s d (found ∙ ap some (sym p))))

-- and that few entries were read for it
with_few : (s : Bytes) (key : ℕ) (r : KeyRead) → AllBytes s → r ≡ lookup_by_halving s key → (r ≡ lookup_by_halving s key) × (r.reads ≤ 13)
with_few s key r bytes e = (e, rw e (at_most_13 s bytes key))

pub payload_at-requires : goal.payload_at-requires
payload_at-requires c = omega (arith, c.in-Ok.ensures.2)

pub in_directory-requires : goal.in_directory-requires
in_directory-requires c =
    let known = c.in-Ok.ensures in
    room_for_entries _ _ known.0 (known.1 ∙ ap some (sym c.payload_at.ensures))

pub returns-in-Ok : goal.returns-in-Ok
returns-in-Ok c =
    let known = c.in-Ok.ensures in
    with_few _ _ _ (λ i. omega (arith, c.type_inv.file i))
    (in_directory _ _ _ _ _ known.0 known.1 c.payload_at.ensures c.in_directory.ensures)

pub returns-in-Err : goal.returns-in-Err
unfolding lookup_by_halving
returns-in-Err c = (sym (read_fails _ _ _ c.in-Err.ensures), omega arith)
