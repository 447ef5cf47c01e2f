-- Zeros behind bytes that stand at the front of an output, as many as there is room for.
-- Assumes nothing.
use mathlib.Core.Path.{◌≡◌, sym, ap, ◌∙◌}
use Prim.Native.Nat.{ℕ, ◌+◌, ◌≤◌}
use native.Mathlib.Omega.{arith}
use mathlib.Core.List.{◌++◌, append-nil}
use lib.ListN.{length, take, length-append, length-replicate, drop_of_length-le}
use lib.Seq.{sets, sets-eq, length-take-le}
use Rattle.fields.specs.Bytes.{Bytes, zeros}
use Rattle.fields.proofs.StoreLaws.{sets-append, sets_room}

-- all of an output, stored over
over_all : (d xs : Bytes) → length d ≤ length xs → sets d 0 xs ≡ take (length d) xs
over_all d xs h =
    let n = length d in
    let long : length (take n xs) ≡ n = length-take-le n xs h in
    let z : 0 + length (take n xs) ≡ n = omega arith in
    sym (sets_room d 0 n xs (omega arith)) ∙ sets-eq (take n xs) d 0 (omega arith)
    ∙ rw (z, drop_of_length-le d {i = n} (omega arith)) (append-nil (take n xs))

-- the bytes f stand at the front, and zeros are stored from their end on
pub zeroed : (d f : Bytes) (to : ℕ) → to ≡ length f → sets (sets d 0 f) to (zeros (length d)) ≡ take (length d) (f ++ zeros (length d))
zeroed d f to e =
    let z : 0 + length f ≡ to = omega arith in
    ap (λ (i : ℕ). sets (sets d 0 f) i (zeros (length d))) (sym z) ∙ sym (sets-append d 0 f (zeros (length d)))
    ∙ over_all d (f ++ zeros (length d)) (omega (arith, length-append f (zeros (length d)), length-replicate {A = ℕ} (length d) 0))
