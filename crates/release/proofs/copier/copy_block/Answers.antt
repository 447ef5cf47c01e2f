-- `copier::copy_block` meets its contract. Assumes nothing.
use Rattle.std.proofs.Common.{◌≡◌, ℕ, ◌+◌, ◌*◌, ◌≤◌, arith, sym, ap, ◌∙◌, List, length, take}
use lib.Seq.{sets, length-take-le}
use Rattle.fields.specs.Bytes.{Bytes, join}
use Rattle.fields.proofs.StoreLaws.{stored_whole}
use Rattle.sheet.specs.Boxes.{keeps_by}
use Rattle.release.specs.KeptPoints.{kept_of}
use Rattle.release.proofs.kept_points.RunLaws.{chosen_all}
use Rattle.release.proofs.copier.BlockLaws.{whole_block}
use Rattle.release.proofs.copier.copy_block.Goals.{After-choose}
use Rattle.release.proofs.copier.copy_block.Goals as goal

-- as many are chosen as are kept
counted : (c : After-choose)
    → let a = c.args in
    c.choose.new.chosen.count ≡ length (kept_of (keeps_by a.keeper.now.table a.keeper.now.boxes a.block.format) a.block)
counted c = let a = c.args in chosen_all (keeps_by a.keeper.now.table a.keeper.now.boxes a.block.format) a.block c.choose.new.chosen c.requires.0 c.choose.ensures

pub copy_chosen-requires : goal.copy_chosen-requires
copy_chosen-requires c =
    (omega (arith, c.choose.ensures.few, c.requires.0), c.choose.ensures.places, rw (counted (goal.at.copy_chosen-requires c).After-choose) c.requires.1)

pub returns-then-k-block : goal.returns-then-k-block
returns-then-k-block c =
    let a = c.args in
    let p = a.block in
    let k = c.choose.new.chosen.count in
    let keep = keeps_by a.keeper.now.table a.keeper.now.boxes p.format in
    let count = counted (goal.at.returns-then-k-block c).After-choose in
    let all : k ≡ p.count = c.if-k-block.true in
    let same : take (k * p.record_length) p.bytes.now ≡ take (p.count * p.record_length) p.bytes.now = ap (λ (n : ℕ). take (n * p.record_length) p.bytes.now) all in
    let long : length (take (p.count * p.record_length) p.bytes.now) ≡ p.count * p.record_length = length-take-le (p.count * p.record_length) p.bytes.now p.held in
    let products : length (kept_of keep p) * p.record_length ≡ p.count * p.record_length = ap (λ (n : ℕ). n * p.record_length) (sym count ∙ all) in
    let space : 0 + length (take (k * p.record_length) p.bytes.now) ≤ length a.out.now = omega (arith, ap length same, long, products, c.requires.1) in
    (count, stored_whole a.out.now 0 (take (k * p.record_length) p.bytes.now) _ c.copy_whole.ensures space ∙ ap (λ (x : Bytes). sets a.out.now 0 x) (same ∙ whole_block keep p (sym all ∙ count)))

pub returns-else-k-block : goal.returns-else-k-block
returns-else-k-block c =
    let a = c.args in (
      counted (goal.at.returns-else-k-block c).After-choose,
      c.copy_chosen.ensures ∙ ap (λ (x : List Bytes). sets a.out.now 0 (join x)) c.choose.ensures.same,
    )
