-- `kept_points::Keeper::count_by_both` meets its contract. Assumes nothing.
use Rattle.std.proofs.Common.{◌≡◌, ℕ, ◌+◌, arith, ap, subst, ◌∙◌, length}
use Rattle.sheet.specs.Boxes.{keeps_by}
use Rattle.release.specs.Blocks.{TakesBlock}
use Rattle.release.specs.KeptPoints.{kept_of, Chooses}
use Rattle.release.proofs.kept_points.RunLaws.{few_kept, none_left, count_split}
use Rattle.release.proofs.kept_points.Keeper.count_by_both.Goals.{After-choose_by_both}
use Rattle.release.proofs.kept_points.Keeper.count_by_both.Goals as goal

-- the kept records of the block at hand and of what is left behind it
more : (c : After-choose_by_both)
    → let keep = keeps_by c.args.self.now.table c.args.self.now.boxes c.args.points.format in
    length (kept_of keep c.loop-block.block-iterator.rest) ≡ c.choose_by_both.new.chosen.count + length (kept_of keep c.next.new.self.rest)
more c =
    let keep = keeps_by c.args.self.now.table c.args.self.now.boxes c.args.points.format in
    let block : TakesBlock c.loop-block.block-iterator.rest c.in-Some.block c.next.new.self.rest = c.in-Some.ensures.steps in
    let format : c.in-Some.block.format ≡ c.args.points.format = block.format ∙ c.loop-block.invariant.2 in
    let chosen : Chooses keep c.in-Some.block c.choose_by_both.new.chosen =
    subst (λ (f : ℕ). Chooses (keeps_by c.args.self.now.table c.args.self.now.boxes f) c.in-Some.block c.choose_by_both.new.chosen) format c.choose_by_both.ensures in
    count_split keep c.loop-block.block-iterator.rest c.in-Some.block c.next.new.self.rest block c.choose_by_both.new.chosen chosen

pub overflow_add-n : goal.overflow_add-n
overflow_add-n c =
    let keep = keeps_by c.args.self.now.table c.args.self.now.boxes c.args.points.format in
    record { fits = omega (arith, more c, c.loop-block.invariant.3, few_kept keep c.args.points, c.args.points.few) }

pub loop-block-preserved : goal.loop-block-preserved
loop-block-preserved c =
    let block : TakesBlock c.loop-block.block-iterator.rest c.in-Some.block c.next.new.self.rest = c.in-Some.ensures.steps in
    (tt, tt, block.rest_format ∙ c.loop-block.invariant.2, omega (arith, more c, c.loop-block.invariant.3))

pub returns : goal.returns
returns c =
    let keep = keeps_by c.args.self.now.table c.args.self.now.boxes c.args.points.format in
    let none = none_left keep c.loop-block.block-iterator.rest c.in-None.ensures.steps in
    omega (arith, ap length none, c.loop-block.invariant.3)
