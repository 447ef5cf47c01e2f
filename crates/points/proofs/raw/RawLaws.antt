-- Laws of a record's class, flags, return number and stored coordinates.
-- Assumes nothing.
use mathlib.Core.Path.{◌≡◌, refl, ap}
use Prim.Native.Nat.{ℕ, zero, suc, ◌+◌, ◌-◌, ◌*◌, ◌/◌, ◌%◌, ◌^◌, ◌≤◌, ◌<◌}
use native.Mathlib.Omega.{arith}
use mathlib.Core.Bool.{Bool, true, false}
use lib.ListN.{take}
use lib.Seq.{get_or-take}
use lib.Dec.{ltb, eqb}
use lib.IntN.{ℤ, pos, negsuc, nat_abs}
use mir.Syntax.{w32}
use mir.Val.{SFits, to_z, sel, bool_byte}
use borrow.Author.Tests.{ltb-true, ltb-false}
use Rattle.fields.specs.Bytes.{Bytes, AllBytes, part, num}
use Rattle.fields.proofs.ByteLaws.{part-take}
use Rattle.points.specs.Raw.{bits, bit, class_in, synthetic_in, key_point_in, withheld_in, class_byte, class_of, synthetic_of, key_point_of, withheld_of, return_of, stored, stored_of}

-- a bit as a number
pub bit_value : (n b : ℕ) → bool_byte (bit n b) ≡ bits n 1 b
unfolding bit bits
bit_value n b = go (b / 2 ^ n % 2) (omega arith)
  where
    go : (k : ℕ) → k ≤ 1 → bool_byte (eqb k 1) ≡ k
    go zero h = refl
    go (suc zero) h = refl
    go (suc (suc k)) h = absurd (omega arith)

-- ---- class and flags

-- a classification byte is a byte
pub class_byte_lem : (f : ℕ) (p : Bytes) → AllBytes p → class_byte f p < 256
unfolding class_byte
class_byte_lem f p h = h 15

-- a class is five bits
pub class_small : (f : ℕ) (p : Bytes) → class_of f p < 32
unfolding class_of class_in bits
class_small f p = omega arith

-- class and flags, joined, are the classification byte
pub parts_joined : (f : ℕ) (p : Bytes) → class_byte f p < 256
    → class_of f p + 32 * bool_byte (synthetic_of f p) + 64 * bool_byte (key_point_of f p) + 128 * bool_byte (withheld_of f p) ≡ class_byte f p
unfolding bits class_of synthetic_of key_point_of withheld_of class_in synthetic_in key_point_in withheld_in
parts_joined f p h =
    let b = class_byte f p in
    let low : b / 32 ≡ b / 32 % 2 + 2 * (b / 64) = omega arith in
    let high : b / 64 ≡ b / 64 % 2 + 2 * (b / 128) = omega arith in
    let top : b / 128 % 2 ≡ b / 128 = omega arith in
    rw (bit_value 5 b, bit_value 6 b, bit_value 7 b) (omega (arith, low, high, top))

-- a return number is three bits
pub return_small : (f : ℕ) (p : Bytes) → return_of f p < 8
unfolding return_of bits
return_small f p = omega arith

-- ---- the first 20 bytes decide

byte_front : (f n : ℕ) (p : Bytes) → 20 ≤ n → class_byte f (take n p) ≡ class_byte f p
unfolding class_byte
byte_front f n p h = get_or-take n p 15 0 (omega arith)

pub class_front : (f n : ℕ) (p : Bytes) → 20 ≤ n → class_of f (take n p) ≡ class_of f p
unfolding class_of
class_front f n p h = ap (class_in f) (byte_front f n p h)

pub withheld_front : (f n : ℕ) (p : Bytes) → 20 ≤ n → withheld_of f (take n p) ≡ withheld_of f p
unfolding withheld_of
withheld_front f n p h = ap (withheld_in f) (byte_front f n p h)

pub return_front : (f n : ℕ) (p : Bytes) → 20 ≤ n → return_of f (take n p) ≡ return_of f p
unfolding return_of
return_front f n p h = ap (bits 0 3) (get_or-take n p 14 0 (omega arith))

pub stored_front : (axis n : ℕ) (p : Bytes) → axis ≤ 2 → 20 ≤ n → stored axis (take n p) ≡ stored axis p
unfolding stored
stored_front axis n p a h = ap (λ (b : Bytes). to_z w32 (num b)) (part-take (4 * axis) 4 n p (omega arith))

pub stored_of_front : (n : ℕ) (p : Bytes) → 20 ≤ n → stored_of (take n p) ≡ stored_of p
unfolding stored_of
stored_of_front n p h =
    rw (stored_front 0 n p (omega arith) h, stored_front 1 n p (omega arith) h, stored_front 2 n p (omega arith) h)

-- ---- a stored value is in the range of 32 bits, whatever the bytes are

fits_by : (n : ℕ) (b : Bool) → ltb n 2147483648 ≡ b → SFits w32 (sel b (pos n) (negsuc (4294967296 - suc n)))
fits_by n true e = record { sfits = ltb-true n 2147483648 e }
fits_by n false e = record { sfits = omega (arith, ltb-false n 2147483648 e) }

pub stored_fits : (axis : ℕ) (p : Bytes) → SFits w32 (stored axis p)
unfolding stored
stored_fits axis p = let n = num (part (4 * axis) 4 p) in fits_by n (ltb n 2147483648) refl

small : (v : ℤ) → SFits w32 v → nat_abs v ≤ 2 ^ 31
small (pos n) f = omega (arith, f.sfits)
small (negsuc n) f = omega (arith, f.sfits)

pub stored_small : (axis : ℕ) (p : Bytes) → nat_abs (stored axis p) ≤ 2 ^ 31
stored_small axis p = small (stored axis p) (stored_fits axis p)
