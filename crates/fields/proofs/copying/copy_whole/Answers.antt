-- `copying::copy_whole` meets its contract. Assumes nothing.
use mathlib.Core.Path.{◌≡◌, sym, ◌∙◌}
use Prim.Native.Nat.{◌+◌}
use mathlib.Core.Bool.{true}
use lib.ListN.{length}
use lib.Dec.{leb}
use borrow.Author.Tests.{leb-true}
use Rattle.fields.proofs.copying.copy_whole.Goals.{Then-fits_in}
use Rattle.fields.proofs.copying.copy_whole.Goals as goal

-- there is room for all
room : (c : Then-fits_in) → let a = c.args in leb (a.at + length a.src.now) (length a.dst.now) ≡ true
room c = sym c.fits_in.ensures ∙ c.if-fits_in.true

pub copy_all-requires : goal.copy_all-requires
copy_all-requires c = leb-true _ _ (room (goal.at.copy_all-requires c).Then-fits_in)

pub returns-then-fits_in : goal.returns-then-fits_in
returns-then-fits_in c = rw (room (goal.at.returns-then-fits_in c).Then-fits_in) c.copy_all.ensures

pub returns-else-fits_in : goal.returns-else-fits_in
returns-else-fits_in c = let e = sym c.fits_in.ensures ∙ c.if-fits_in.false in rw e
