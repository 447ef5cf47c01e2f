-- `geokeys::find` meets its contract. Assumes nothing.
use mathlib.Core.Path.{◌≡◌, sym, ap, ◌∙◌}
use mathlib.Core.List.{List}
use Prim.Native.Nat.{ℕ}
use mathlib.Core.Option.{some}
use Rattle.std.proofs.Common.{rules}
use native.Mathlib.Omega.{arith}
use Rattle.fields.specs.Bytes.{Bytes}
use Rattle.fields.specs.Checks.{Passes}
use Rattle.geokeys.specs.GeoKeys.{payload_at, entries, entry_of, from_entry, directory_of, searched, search_verdict, lookup, GeoKey}
use Rattle.geokeys.proofs.SearchLaws.{answer_passes, answer_fails, room_for_entries, searched_is}
use Rattle.geokeys.proofs.find.Goals as goal

-- the answer where a directory is searched
in_directory : (s d : Bytes) (at key : ℕ) (r : GeoKey) → search_verdict s ≡ Passes → directory_of s ≡ some (payload_at s at) → d ≡ payload_at s at
    → r ≡ from_entry s (entry_of (entries d) key) → r ≡ lookup s key
unfolding lookup
in_directory s d at key r passes found p e = e ∙ sym (answer_passes _ _ passes ∙ ap (λ (es : List Bytes). from_entry s (entry_of es key)) (searched_is s d (found ∙ ap some (sym p))))

pub payload_at-requires : goal.payload_at-requires
payload_at-requires c = omega (arith, c.in_ok-at.ensures.2)

pub in_directory-requires : goal.in_directory-requires
in_directory-requires c =
    let known = c.in_ok-at.ensures in
    room_for_entries _ _ known.0 (known.1 ∙ ap some (sym c.payload_at.ensures))

pub returns : goal.returns
returns c =
    let known = c.in_ok-at.ensures in
    in_directory _ _ _ _ _ known.0 known.1 c.payload_at.ensures c.in_directory.ensures

pub returns-in_err-at : goal.returns-in_err-at
unfolding lookup
returns-in_err-at c =
    let s = c.args.file.now in
    let found = from_entry s (entry_of (searched s) c.args.key) in
    let refused = sym (answer_fails (search_verdict s) found _ c.in_err-at.ensures) in
    search (rules, refused)
