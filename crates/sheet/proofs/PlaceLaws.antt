-- Laws of the places that a sheet keeps: they are decided by a point's first 20 bytes.
-- Assumes nothing.
use mathlib.Core.Path.{◌≡◌, ap}
use Prim.Native.Nat.{ℕ, ◌≤◌}
use native.Mathlib.Omega.{arith}
use mathlib.Core.Bool.{Bool, not, ◌&&◌, ◌||◌}
use lib.ListN.{take}
use Rattle.fields.specs.Bytes.{Bytes}
use Rattle.fields.proofs.ListLaws.{some_same, all_of}
use Rattle.points.proofs.raw.RawLaws.{stored_front}
use Rattle.sheet.specs.Sheet.{on_every_axis, lines}
use Rattle.sheet.specs.Keeping.{is_box, in_box, contains_point, has_box, keeps_place}

in_box_front : (l : Bytes) (n : ℕ) (p : Bytes) → 20 ≤ n → in_box l (take n p) ≡ in_box l p
unfolding in_box on_every_axis
in_box_front l n p h =
    rw (stored_front 0 n p (omega arith) h, stored_front 1 n p (omega arith) h, stored_front 2 n p (omega arith) h)

contains_front : (l : Bytes) (n : ℕ) (p : Bytes) → 20 ≤ n → contains_point l (take n p) ≡ contains_point l p
unfolding contains_point
contains_front l n p h = ap (λ (b : Bool). is_box l && b) (in_box_front l n p h)

pub place_front : (sheet : Bytes) (n : ℕ) (p : Bytes) → 20 ≤ n → keeps_place sheet (take n p) ≡ keeps_place sheet p
unfolding keeps_place
place_front sheet n p h =
    ap (λ (b : Bool). not (has_box sheet) || b)
    (some_same (λ l. contains_point l (take n p)) (λ l. contains_point l p) (lines sheet) (all_of _ (lines sheet) (λ l. contains_front l n p h)))
