-- `Kind::of` meets its contract. Assumes nothing.
use Rattle.std.proofs.Common.{◌≡◌, sym, ◌∙◌}
use Rattle.sheet.specs.Sheet.{kind}
use Rattle.sheet.proofs.Kind.of.Goals as goal

pub returns-in-1 : goal.returns-in-1
unfolding kind
returns-in-1 c =
    let one : kind c.args.rest.now ≡ 1 = sym c.u8_at.ensures ∙ c.in-1.is in
    rw one
