-- Laws of a run of point records: one that holds them, one that does not, and the first of them apart from the others.
-- Assumes nothing.
use mathlib.Core.Path.{◌≡◌, refl, sym}
use Prim.Native.Nat.{ℕ, zero, suc, ◌-◌, ◌+◌, ◌*◌, ◌^◌, ◌≤◌, ◌<◌}
use native.Mathlib.Numerals.{sub-one}
use native.Mathlib.Omega.{arith}
use borrow.Author.Tests.{lt-ltb, le-leb, leb-true, ltb-true}
use mathlib.Core.Bool.{Bool, true, false, ◌&&◌, true≢false}
use mathlib.Core.List.{◌∷◌, []}
use lib.ListN.{length, take, drop}
use lib.Dec.{ltb, leb}
use Rattle.fields.specs.Lists.{list_if}
use Rattle.fields.specs.Bytes.{Bytes, pieces}
use Rattle.fields.proofs.ByteLaws.{mul-suc}
use Rattle.points.specs.Raw.{in_run, points_of}

-- what it means that a run holds its records
pub record InRun (count len size : ℕ) : Type 0 where
  pub long : 20 ≤ len
  pub few : count < 2 ^ 32
  pub within : count * len ≤ size

pub both : (a b : Bool) → a && b ≡ true → (a ≡ true) × (b ≡ true)
both true b e = (refl, e)
both false b e = absurd (true≢false (sym e))

pub in_run_lem : (count len size : ℕ) → in_run count len size ≡ true → InRun count len size
unfolding in_run
in_run_lem count len size e =
    let f = both (leb 20 len) (ltb count 4294967296 && leb (count * len) size) e in
    let g = both (ltb count 4294967296) (leb (count * len) size) f.1 in
    record { long = leb-true 20 len f.0; few = ltb-true count 4294967296 g.0; within = leb-true (count * len) size g.1 }

pub points_held : (count len : ℕ) (run : Bytes) → InRun count len (length run) → points_of count len run ≡ pieces count len run
unfolding points_of in_run list_if
points_held count len run h = rw (le-leb 20 len h.long, lt-ltb count 4294967296 h.few, le-leb (count * len) (length run) h.within)

pub points_none : (count len : ℕ) (run : Bytes) → in_run count len (length run) ≡ false → points_of count len run ≡ []
unfolding points_of list_if
points_none count len run e = rw e

-- ---- the first record apart

pub pieces_step : (left len : ℕ) (s : Bytes) → 0 < left → pieces left len s ≡ take len s ∷ pieces (left - 1) len (drop len s)
unfolding pieces
pieces_step zero len s h = absurd (omega arith)
pieces_step (suc n) len s h = rw sub-one

pub mul_step : (left len : ℕ) → 0 < left → left * len ≡ len + (left - 1) * len
mul_step zero len h = absurd (omega arith)
mul_step (suc n) len h = rw sub-one (mul-suc n len)
