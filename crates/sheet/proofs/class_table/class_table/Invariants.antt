-- What the loop of `class_table::class_table` keeps: each entry so far is what the sheet says. Assumes nothing.
use mathlib.Core.Path.{◌≡◌}
use mathlib.Core.Bool.{false}
use Prim.Native.Nat.{ℕ, ◌-◌, ◌≤◌, ◌<◌}
use lib.ListN.{length, get_or}
use Rattle.sheet.specs.Keeping.{keeps_byte}
use Rattle.sheet.proofs.class_table.class_table.Given as goal

abbrev pub invariant-loop-byte : goal.invariant-loop-byte
invariant-loop-byte l = (l.byte ≤ 256) × (length l.table ≡ 256) × ((k : ℕ) → k < l.byte → get_or l.table k false ≡ keeps_byte l.sheet l.format k)

abbrev pub decreases-loop-byte : goal.decreases-loop-byte
decreases-loop-byte l = 256 - l.byte
