-- A block of records of which the kept ones are copied, and the loop over the blocks of a run, apart from any code:
-- what holds at the start, after a turn, and at the end.
-- Assumes nothing.
use mathlib.Core.Path.{◌≡◌, refl, sym, ap, ◌∙◌}
use Prim.Native.Nat.{ℕ, ◌+◌, ◌*◌, ◌^◌, ◌≤◌, ◌<◌}
use native.Mathlib.Omega.{arith}
use native.Mathlib.Nat.{add-mul}
use mathlib.Core.Bool.{Bool}
use mathlib.Core.List.{List, [], ◌++◌, append_assoc, append-nil}
use lib.ListN.{length, take, drop, length-append, length-drop}
use lib.Seq.{sets, length-sets, length-take-le, sets-eq, drop_at}
use Rattle.fields.specs.Lists.{All}
use Rattle.fields.specs.Bytes.{Bytes, pieces, join}
use Rattle.fields.proofs.ByteLaws.{length-pieces, pieces_width, length-join_pieces, pieces_back, join-append, join-pieces}
use Rattle.fields.proofs.ListLaws.{kept_whole, All-kept}
use Rattle.fields.proofs.StoreLaws.{sets-append}
use Rattle.points.specs.Raw.{points_of}
use Rattle.points.proofs.raw.RunLaws.{points_held}
use Rattle.tally.specs.declared.Tally.{Tally}
use Rattle.tally.specs.Tally.{no_tally, tally_of, tally_more}
use Rattle.tally.proofs.CountLaws.{more_of}
use Rattle.release.specs.declared.run.Points.{Points}
use Rattle.release.specs.Blocks.{records_of, TakesBlock}
use Rattle.release.specs.KeptPoints.{kept_of}
use Rattle.release.proofs.kept_points.RunLaws.{few_kept, none_left, kept_split}

-- ---- a block

-- a block of which all are kept is one run
pub whole_block : (keep : Bytes → Bool) (p : Points) → p.count ≡ length (kept_of keep p) → take (p.count * p.record_length) p.bytes.now ≡ join (kept_of keep p)
whole_block keep p e =
    rw (kept_whole keep (records_of p) (rw (length-pieces p.count p.record_length p.bytes.now) (sym e)), join-pieces p.count p.record_length p.bytes.now)

-- the records of a run have its record length
widths : (keep : Bytes → Bool) (p : Points) → All (λ r. length r ≡ p.record_length) (kept_of keep p)
widths keep p =
    All-kept (λ r. length r ≡ p.record_length) keep (records_of p) (pieces_width p.count p.record_length p.bytes.now p.held)

pub length-kept_of : (keep : Bytes → Bool) (p : Points) → length (join (kept_of keep p)) ≡ length (kept_of keep p) * p.record_length
length-kept_of keep p = length-join_pieces p.record_length (kept_of keep p) (widths keep p)

-- ---- a run, block by block

-- the kept records before the rest stand at the front of the output, and nothing else has changed there
pub record Blocked (keep : Bytes → Bool) (p rest : Points) (out₀ out : Bytes) (to : ℕ) (t : Tally) : Type 0 where
  pub done : List Bytes
  pub all : done ++ kept_of keep rest ≡ kept_of keep p
  pub format : rest.format ≡ p.format
  pub size : rest.record_length ≡ p.record_length
  pub place : to ≡ length done * p.record_length
  pub long : length (join done) ≡ to
  pub same : length out ≡ length out₀
  pub is : out ≡ sets out₀ 0 (join done)
  pub tally : t ≡ tally_of p.format done

module _ (keep : Bytes → Bool) (p : Points) (out₀ : Bytes) (space : length (kept_of keep p) * p.record_length ≤ length out₀) where
  pub blocks_begun : (t : Tally) → t ≡ no_tally → Blocked keep p p out₀ out₀ 0 t
  unfolding join tally_of
  blocks_begun t e =
      record { done = []; all = refl; format = refl; size = refl; place = omega arith; long = refl; same = refl; is = refl; tally = e }

  module _ (rest : Points) (out : Bytes) (to : ℕ) (t : Tally) (c : Blocked keep p rest out₀ out to t) (block rest' : Points) (h : TakesBlock rest block rest') where
    abbrev ks : List Bytes
    ks = kept_of keep block

    pub wide : block.record_length ≡ p.record_length
    wide = h.size ∙ c.size

    whole : (c.done ++ ks) ++ kept_of keep rest' ≡ kept_of keep p
    whole = append_assoc c.done ks (kept_of keep rest') ∙ ap (λ (l : List Bytes). c.done ++ l) (sym (kept_split keep rest block rest' h)) ∙ c.all

    wholes : length c.done + length ks + length (kept_of keep rest') ≡ length (kept_of keep p)
    wholes = rw (← whole, length-append, length-append)

    block_few : length c.done + length ks < 2 ^ 32
    block_few = omega (arith, wholes, few_kept keep p, p.few)

    -- there is room for the kept records of the block
    pub block_room : to + length ks * p.record_length ≤ length out₀
    block_room =
        let k = length c.done in
        let w = p.record_length in
        let r = length (kept_of keep rest') in
        let e : (k + length ks + r) * w ≡ (k + length ks) * w + r * w = add-mul (k + length ks) r w in
        let g : (k + length ks) * w ≡ k * w + length ks * w = add-mul k (length ks) w in
        omega (arith, c.place, e, g, rw (← wholes) at space)

    -- by the block's own record length, and in the output as it is
    same_width : length ks * block.record_length ≡ length ks * p.record_length
    same_width = ap (λ (w : ℕ). length ks * w) wide

    pub block_space : to + length ks * block.record_length ≤ length out
    block_space = omega (arith, block_room, same_width, c.same)

    long_block : length (join ks) ≡ length ks * p.record_length
    long_block = length-kept_of keep block ∙ same_width

    module _ (out' : Bytes) (g : out' ≡ sets out to (join ks)) where
      pub same_room : length out' ≡ length out₀
      same_room = rw (g, length-sets) c.same

      -- the records of the block as they stand
      stands : pieces (length ks) block.record_length (drop to out') ≡ ks
      stands =
          let enough : to + length (join ks) ≤ length out = omega (arith, block_room, long_block, c.same) in
          let head : length (take to out) ≡ to = length-take-le to out (omega arith) in
          let placed : out' ≡ take to out ++ (join ks ++ drop (to + length (join ks)) out) = g ∙ sets-eq (join ks) out to enough ∙ append_assoc (take to out) (join ks) (drop (to + length (join ks)) out) in
          rw (placed, drop_at (take to out) (join ks ++ drop (to + length (join ks)) out) to head)
          (pieces_back block.record_length ks (drop (to + length (join ks)) out) (widths keep block))

      -- and the points that are tallied are these
      tallied_are : points_of (length ks) block.record_length (drop to out') ≡ ks
      tallied_are =
          points_held (length ks) block.record_length (drop to out')
          record { long = block.long; few = omega (arith, block_few); within = simp length-drop (omega (arith, block_space, same_room, c.same)) }
          ∙ stands

      number_width : (k : ℕ) → k ≡ length ks → k * block.record_length ≡ length ks * p.record_length
      number_width k number = ap (λ (n : ℕ). n * block.record_length) number ∙ same_width

      -- the block is done: k records more stand in the output, and are tallied
      pub blocks_next : (k : ℕ) → k ≡ length ks → (t' : Tally) → t' ≡ tally_more block.format t (points_of k block.record_length (drop to out'))
          → Blocked keep p rest' out₀ out' (to + k * block.record_length) t'
      blocks_next k number t' e =
          let zeroth : 0 + to ≡ to = omega arith in
          record {
            done = c.done ++ ks;
            all = whole;
            format = h.rest_format ∙ c.format;
            size = h.rest_size ∙ c.size;
            place = rw length-append (omega (arith, c.place, number_width k number, add-mul (length c.done) (length ks) p.record_length));
            long = rw join-append (omega (arith, length-append (join c.done) (join ks), long_block, c.long, number_width k number));
            same = same_room;
            is = rw (join-append, sets-append, c.long, ← c.is, zeroth) g;
            tally = e ∙ rw (number, tallied_are, c.tally, h.format, c.format) (more_of p.format c.done ks (omega (arith, block_few)));
          }

  pub blocks_done : (rest : Points) (out : Bytes) (to : ℕ) (t : Tally) → rest.count ≡ 0 → Blocked keep p rest out₀ out to t
      → (t ≡ tally_of p.format (kept_of keep p)) × (out ≡ sets out₀ 0 (join (kept_of keep p)))
  blocks_done rest out to t e c =
      let all : c.done ≡ kept_of keep p = sym (append-nil c.done) ∙ ap (λ (l : List Bytes). c.done ++ l) (sym (none_left keep rest e)) ∙ c.all in
      rw (← all) (c.tally, c.is)
