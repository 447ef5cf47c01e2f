-- `copier::copy_blocks` meets its contract. Assumes nothing.
use Rattle.std.proofs.Common.{◌≡◌, ℕ, ◌+◌, ◌-◌, ◌*◌, ◌≤◌, rules, arith, sym, ap, subst, ◌∙◌, ◌++◌, length, take, drop, length-drop}
use lib.Seq.{sets, length-sets}
use Rattle.fields.specs.Bytes.{Bytes, join}
use Rattle.fields.proofs.StoreLaws.{tail_part, lent_back}
use Rattle.points.specs.Raw.{points_of}
use Rattle.sheet.specs.Boxes.{keeps_by}
use Rattle.tally.specs.Tally.{tally_more}
use Rattle.release.specs.Blocks.{TakesBlock}
use Rattle.release.specs.KeptPoints.{kept_of}
use Rattle.release.proofs.copier.BlockLaws.{blocks_begun, block_space, blocks_next, blocks_done}
use Rattle.release.proofs.copier.copy_blocks.Goals.{In-Some, After-copy_block-k}
use Rattle.release.proofs.copier.copy_blocks.Goals as goal

pub loop-block-init : goal.loop-block-init
loop-block-init c =
    let a = c.args in
    let keep = keeps_by a.keeper.now.table a.keeper.now.boxes a.points.format in
    let all : c.into_iter-block-iterator.result.rest ≡ a.points = search rules in
    (tt, tt, rw all (blocks_begun keep a.points a.out.now c.requires c.fresh-t.result c.fresh-t.ensures))

taken : (c : In-Some) → TakesBlock c.loop-block.block-iterator.rest c.in-Some.block c.next.new.self.rest
taken c = c.in-Some.ensures.steps

format : (c : In-Some) → c.in-Some.block.format ≡ c.args.points.format
format c = (taken c).format ∙ c.loop-block.invariant.2.format

-- there is room for what is kept of the block
fits : (c : In-Some)
    → let a = c.args in
    c.loop-block.to + length (kept_of (keeps_by a.keeper.now.table a.keeper.now.boxes a.points.format) c.in-Some.block) * c.in-Some.block.record_length ≤ length c.loop-block.out
fits c =
    let a = c.args in
    let l = c.loop-block in
    let keep = keeps_by a.keeper.now.table a.keeper.now.boxes a.points.format in
    block_space keep a.points a.out.now c.requires l.block-iterator.rest l.out l.to l.t l.invariant.2 c.in-Some.block c.next.new.self.rest (taken c)

pub copy_block-k-requires : goal.copy_block-k-requires
copy_block-k-requires c =
    let a = c.args in
    let l = c.loop-block in
    let d = (goal.at.copy_block-k-requires c).In-Some in
    let block = c.in-Some.block in
    let space : length (kept_of (keeps_by a.keeper.now.table a.keeper.now.boxes a.points.format) block) * block.record_length ≤ length (take (length l.out - l.to) (drop l.to l.out)) =
    rw (tail_part l.out l.to, length-drop) (omega (arith, fits d)) in (
      (taken d).few,
      subst (λ (f : ℕ). length (kept_of (keeps_by a.keeper.now.table a.keeper.now.boxes f) block) * block.record_length ≤ length (take (length l.out - l.to) (drop l.to l.out))) (sym (format d)) space,
    )

-- the output after the block
abbrev after : After-copy_block-k → Bytes
after c =
    let l = c.loop-block in
    take l.to l.out ++ (c.copy_block-k.new.out ++ drop (length l.out - l.to) (drop l.to l.out))

copied : (c : After-copy_block-k)
    → c.in-Some.block.format ≡ c.args.points.format
    → let a = c.args in
    c.copy_block-k.result ≡ length (kept_of (keeps_by a.keeper.now.table a.keeper.now.boxes a.points.format) c.in-Some.block)
copied c same =
    let a = c.args in
    c.copy_block-k.ensures.0
    ∙ ap (λ (f : ℕ). length (kept_of (keeps_by a.keeper.now.table a.keeper.now.boxes f) c.in-Some.block)) same

stands : (c : After-copy_block-k)
    → c.in-Some.block.format ≡ c.args.points.format
    → let a = c.args in
    after c ≡ sets c.loop-block.out c.loop-block.to (join (kept_of (keeps_by a.keeper.now.table a.keeper.now.boxes a.points.format) c.in-Some.block))
stands c same =
    let a = c.args in
    let l = c.loop-block in
    lent_back l.out _ l.to (join (kept_of (keeps_by a.keeper.now.table a.keeper.now.boxes a.points.format) c.in-Some.block))
    (c.copy_block-k.ensures.1
    ∙ ap (λ (f : ℕ). sets (take (length l.out - l.to) (drop l.to l.out)) 0 (join (kept_of (keeps_by a.keeper.now.table a.keeper.now.boxes f) c.in-Some.block))) same)

long_after : (c : After-copy_block-k) → c.in-Some.block.format ≡ c.args.points.format → length (after c) ≡ length c.loop-block.out
long_after c same = rw (stands c same, length-sets)

pub slice_bounds-tally_more-count : goal.slice_bounds-tally_more-count
slice_bounds-tally_more-count c =
    let d = (goal.at.slice_bounds-tally_more-count c).In-Some in
    omega (arith, long_after (goal.at.slice_bounds-tally_more-count c).After-copy_block-k (format d), fits d)

pub slice_bounds-tally_more-start : goal.slice_bounds-tally_more-start
slice_bounds-tally_more-start c =
    let d = (goal.at.slice_bounds-tally_more-start c).In-Some in
    omega (arith, long_after (goal.at.slice_bounds-tally_more-start c).After-copy_block-k (format d), fits d)

pub overflow_mul-to : goal.overflow_mul-to
overflow_mul-to c =
    let d = (goal.at.overflow_mul-to c).In-Some in
    rw (copied (goal.at.overflow_mul-to c).After-copy_block-k (format d)) (record { fits = omega (arith, fits d, c.well_formed) })

pub overflow_add-to : goal.overflow_add-to
overflow_add-to c =
    let d = (goal.at.overflow_add-to c).In-Some in
    rw (copied (goal.at.overflow_add-to c).After-copy_block-k (format d)) (record { fits = omega (arith, fits d, c.well_formed) })

pub loop-block-preserved : goal.loop-block-preserved
loop-block-preserved c =
    let a = c.args in
    let l = c.loop-block in
    let d = (goal.at.loop-block-preserved c).After-copy_block-k in
    let e = (goal.at.loop-block-preserved c).In-Some in
    let keep = keeps_by a.keeper.now.table a.keeper.now.boxes a.points.format in
    let block = c.in-Some.block in
    let k = c.copy_block-k.result in
    let more : c.tally_more-t.result ≡ tally_more block.format l.t (points_of k block.record_length (drop l.to (after d))) =
    c.tally_more-t.ensures ∙ ap (λ (x : Bytes). tally_more block.format l.t (points_of k block.record_length x)) (tail_part (after d) l.to) in (
      tt,
      tt,
      blocks_next keep a.points a.out.now c.requires l.block-iterator.rest l.out l.to l.t l.invariant.2 block c.next.new.self.rest (taken e) (after d) (stands d (format e)) k (copied d (format e)) _ more,
    )

pub returns : goal.returns
returns c =
    let a = c.args in
    let l = c.loop-block in
    let keep = keeps_by a.keeper.now.table a.keeper.now.boxes a.points.format in
    blocks_done keep a.points a.out.now c.requires l.block-iterator.rest l.out l.to l.t c.in-None.ensures.steps l.invariant.2
