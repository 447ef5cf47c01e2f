-- What a release gives, case by case, and what an accepted one says.
-- Assumes nothing.
use mathlib.Core.Path.{◌≡◌, refl}
use Prim.Native.Nat.{ℕ, ◌-◌, ◌≤◌, ◌<◌}
use native.Mathlib.Omega.{arith}
use mathlib.Core.Bool.{Bool, true, false}
use mathlib.Core.List.{◌++◌}
use lib.ListN.{length}
use lib.Dec.{ltb}
use borrow.Author.Tests.{lt-ltb, le-ltb, ltb-false}
use Rattle.fields.specs.Bytes.{Bytes, zeros}
use Rattle.fields.specs.Checks.{then, Verdict, Passes, Fails}
use Rattle.lasfile.specs.FileChecks.{file_verdict}
use Rattle.sheet.specs.Sheet.{sheet_verdict}
use Rattle.publicpart.specs.Public.{Public, contents, public_of}
use Rattle.publicpart.specs.Render.{render}
use Rattle.publicpart.specs.Release.{Outcome, refuse_or, short_or, accepted, room_or, release, Released, Short, Refused}

-- ---- an output of a public part

module _ (p : Public) (out : Bytes) where
  pub room_short : length out < length (render p) → room_or p out ≡ (Short (length (render p)), out)
  unfolding room_or short_or
  room_short h = rw (lt-ltb (length out) (length (render p)) h)

  pub room_long : length (render p) ≤ length out → room_or p out ≡ (
    Released (length (render p)) (length p.points) (length p.records),
    render p ++ zeros (length out - length (render p)),
  )
  unfolding room_or short_or accepted
  room_long h = rw (le-ltb (length out) (length (render p)) h)

-- ---- a release, case by case

module _ (sheet s out : Bytes) where
  pub refused_by_file : (n : ℕ) → file_verdict s ≡ Fails n → release sheet s out ≡ (Refused n, out)
  unfolding release refuse_or then
  refused_by_file n e = rw e

  module _ (file_good : file_verdict s ≡ Passes) where
    pub refused_by_sheet : (n : ℕ) → sheet_verdict sheet ≡ Fails n → release sheet s out ≡ (Refused n, out)
    unfolding release refuse_or then
    refused_by_sheet n e = rw (file_good, e)

    module _ (sheet_good : sheet_verdict sheet ≡ Passes) where
      pub release_short : length out < length (render (public_of sheet s)) → release sheet s out ≡ (Short (length (render (public_of sheet s))), out)
      unfolding release refuse_or then
      release_short h = rw (file_good, sheet_good) (room_short (public_of sheet s) out h)

      pub release_long : length (render (public_of sheet s)) ≤ length out → release sheet s out ≡ (
        Released (length (render (public_of sheet s))) (length (public_of sheet s).points) (length (public_of sheet s).records),
        render (public_of sheet s) ++ zeros (length out - length (render (public_of sheet s))),
      )
      unfolding release refuse_or then
      release_long h = rw (file_good, sheet_good) (room_long (public_of sheet s) out h)

-- of files that pass a release looks at the contents alone
pub release_alike : (sheet s t out : Bytes) → file_verdict s ≡ Passes → file_verdict t ≡ Passes → contents s ≡ contents t → release sheet s out ≡ release sheet t out
unfolding release public_of
release_alike sheet s t out e f same = rw (e, f, same)

-- ---- an accepted release

steps : (x y : Verdict) (short? : Bool) (m : ℕ) (out : Bytes) (o : Outcome) (n q r : ℕ)
    → (refuse_or (then x y) out (short_or short? m out o)).0 ≡ Released n q r
    → (x ≡ Passes) × (y ≡ Passes) × (short? ≡ false) × (o.0 ≡ Released n q r)
unfolding refuse_or then short_or
steps (Fails c) y s m out o n q r e = let z : ◌≡◌ {A = ℕ} 0 1 = cc in absurd (omega arith)
steps Passes (Fails c) s m out o n q r e = let z : ◌≡◌ {A = ℕ} 0 1 = cc in absurd (omega arith)
steps Passes Passes true m out o n q r e = let z : ◌≡◌ {A = ℕ} 0 1 = cc in absurd (omega arith)
steps Passes Passes false m out o n q r e = (refl, refl, refl, e)

fields_of : (a b c n q r : ℕ) → Released a b c ≡ Released n q r → (a ≡ n) × (b ≡ q) × (c ≡ r)
fields_of a b c n q r e = (cc, cc, cc)

-- what it says of its file, sheet and output: none of the refusals applies, and the numbers are the public part's
pub record Taken (sheet s out : Bytes) (n points records : ℕ) : Type 0 where
  pub file_passes : file_verdict s ≡ Passes
  pub sheet_passes : sheet_verdict sheet ≡ Passes
  pub room : length (render (public_of sheet s)) ≤ length out
  pub answer : (length (render (public_of sheet s)) ≡ n) × (length (public_of sheet s).points ≡ points) × (length (public_of sheet s).records ≡ records)

pub release_taken : (sheet s out : Bytes) (n points records : ℕ) → (release sheet s out).0 ≡ Released n points records → Taken sheet s out n points records
unfolding release room_or accepted
release_taken sheet s out n points records e =
    let need : ℕ = length (render (public_of sheet s)) in
    let h = steps (file_verdict s) (sheet_verdict sheet) (ltb (length out) need) need out (accepted (public_of sheet s) (length out)) n points records e in
    record { file_passes = h.0; sheet_passes = h.1; room = ltb-false (length out) need h.2; answer = fields_of _ _ _ n points records h.3 }
