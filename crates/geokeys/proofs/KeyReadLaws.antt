-- Laws of the lookup by halving: its answer after a verdict, and how many entries it can read.
-- Assumes nothing.
use mathlib.Core.Path.{◌≡◌, refl}
use mathlib.Core.Option.{Option, none, some}
use Prim.Native.Nat.{ℕ, ◌+◌, ◌≤◌, ◌<◌, ◌^◌}
use native.Mathlib.Omega.{arith}
use lib.ListN.{length, drop}
use Rattle.fields.specs.Bytes.{Bytes, AllBytes}
use Rattle.fields.specs.Checks.{first_failing, Verdict, Passes, Fails}
use Rattle.fields.proofs.ByteLaws.{num-part-lt, length-part-le, length-pieces}
use Rattle.fields.proofs.CheckLaws.{then_passed}
use Rattle.lasfile.specs.Records.{payload_length}
use Rattle.lasfile.proofs.vlr.FieldLaws.{record_at-payload, length_at}
use Rattle.geokeys.specs.GeoKeys.{projection_place, payload_at, key_count, directory_checks, entries, answer_if, from_entry, payload_in, directory_of, directory_verdict, entries_in, searched, search_verdict, Refused}
use Rattle.geokeys.specs.Halving.{halve, key_read, read_if, lookup_by_halving, KeyRead}
use Rattle.geokeys.proofs.SearchLaws.{room_for_keys}
use Rattle.geokeys.proofs.HalvingLaws.{few_reads}

-- ---- an answer after a verdict

pub read_passes : (v : Verdict) (r : KeyRead) → v ≡ Passes → read_if v r ≡ r
unfolding read_if
read_passes v r e = rw e

pub read_fails : (v : Verdict) (r : KeyRead) (n : ℕ) → v ≡ Fails n → read_if v r ≡ record { found = Refused n; reads = 0 }
unfolding read_if
read_fails v r n e = rw e

-- ---- how many entries a payload can hold

-- the length of a payload has 2 bytes
short_payload : (s : Bytes) (at : ℕ) → AllBytes s → length (payload_at s at) < 65536
unfolding payload_at
short_payload s at bytes =
    let n : ℕ = payload_length 2 (drop at s) in
    let low : n < 256 ^ 2 = rw (length_at 2 s at) (num-part-lt (at + 20) 2 s bytes) in
    rw (record_at-payload 2 s at) (omega (arith, low, length-part-le (at + 54) n s))

-- 8,190 entries of 8 bytes behind the head
few_keys : (d : Bytes) → length d < 65536 → first_failing (directory_checks d) ≡ Passes → length (entries d) ≤ 8190
unfolding entries
few_keys d h passes =
    omega (arith, room_for_keys d passes, length-pieces (key_count d) 8 (drop 8 d))

module _ (s : Bytes) (bytes : AllBytes s) where
  few_in : (place : Option ℕ) → directory_verdict (payload_in s place) ≡ Passes → length (entries_in (payload_in s place)) ≤ 8190
  unfolding payload_in directory_verdict entries_in
  few_in none e = omega arith
  few_in (some at) e = few_keys (payload_at s at) (short_payload s at bytes) e

  pub few_searched : search_verdict s ≡ Passes → length (searched s) ≤ 8190
  unfolding search_verdict searched directory_of
  few_searched e = few_in (projection_place s 34735) (then_passed _ _ e)

  -- which is below 2 ^ 13
  pub at_most_13 : (key : ℕ) → (lookup_by_halving s key).reads ≤ 13
  unfolding lookup_by_halving
  at_most_13 key = decide (search_verdict s) refl
    where
      decide : (v : Verdict) → search_verdict s ≡ v → (read_if v (key_read s (halve (searched s) key))).reads ≤ 13
      decide Passes e = unfold read_if key_read in few_reads 13 (searched s) key (omega (arith, few_searched e))
      decide (Fails n) e = unfold read_if in omega arith

-- ---- the answer, apart from the reads

pub found_is : (s : Bytes) (key : ℕ)
    → (lookup_by_halving s key).found ≡ answer_if (search_verdict s) (from_entry s (halve (searched s) key).entry)
unfolding lookup_by_halving
found_is s key = decide (search_verdict s)
  where
    decide : (v : Verdict) → (read_if v (key_read s (halve (searched s) key))).found ≡ answer_if v (from_entry s (halve (searched s) key).entry)
    decide Passes = unfold read_if key_read answer_if in refl
    decide (Fails n) = unfold read_if answer_if in refl
