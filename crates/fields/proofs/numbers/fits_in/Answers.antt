-- `fields::numbers::fits_in` meets its contract: the difference asks what the sum would. Assumes nothing.
use mathlib.Core.Path.{◌≡◌, refl, sym}
use mathlib.Core.Bool.{Bool, true, false}
use Prim.Native.Nat.{ℕ, ◌+◌, ◌-◌, ◌≤◌}
use native.Mathlib.Omega.{arith}
use lib.Dec.{leb}
use borrow.Author.Tests.{le-leb, lt-leb, leb-true, leb-false}
use Rattle.fields.proofs.numbers.fits_in.Goals as goal

by_difference : (at n l : ℕ) → at ≤ l → (b : Bool) → leb n (l - at) ≡ b → b ≡ leb (at + n) l
by_difference at n l h true e = sym (le-leb (at + n) l (omega (arith, leb-true n (l - at) e)))
by_difference at n l h false e = sym (lt-leb (at + n) l (omega (arith, leb-false n (l - at) e)))

pub returns-then-at-length : goal.returns-then-at-length
returns-then-at-length c = let a = c.args in by_difference a.at a.n a.length c.if-at-length.true (leb a.n (a.length - a.at)) refl

pub returns-else-at-length : goal.returns-else-at-length
returns-else-at-length c = let a = c.args in sym (lt-leb (a.at + a.n) a.length (omega arith))
