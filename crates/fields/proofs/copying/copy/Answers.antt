-- `copying::copy` meets its contract. Assumes nothing.
use mathlib.Core.Path.{◌≡◌, sym, ◌∙◌}
use native.Mathlib.Omega.{arith}
use lib.ListN.{length, take}
use lib.Seq.{length-take-le}
use Rattle.fields.proofs.StoreLaws.{sets_out, sets_least}
use Rattle.fields.proofs.copying.copy.Goals.{After-least-n}
use Rattle.fields.proofs.copying.copy.Goals as goal

pub returns-then-dst-at : goal.returns-then-dst-at
returns-then-dst-at c = let a = c.args in sym (sets_out a.dst.now a.at a.src.now (omega arith))

-- n bytes are there
there : (c : After-least-n) → length (take c.least-n.result c.args.src.now) ≡ c.least-n.result
there c = length-take-le c.least-n.result c.args.src.now (omega (arith, c.least-n.ensures))

pub slice_bounds-copy_all-end : goal.slice_bounds-copy_all-end
slice_bounds-copy_all-end c = sym (there c)

pub copy_all-requires : goal.copy_all-requires
copy_all-requires c = omega (arith, there (goal.at.copy_all-requires c).After-least-n, c.least-n.ensures)

pub returns : goal.returns
returns c =
    let a = c.args in
    let n = c.least-n in
    c.copy_all.ensures ∙ sets_least a.dst.now a.at n.result a.src.now (omega arith) n.ensures
