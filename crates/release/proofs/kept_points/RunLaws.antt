-- The kept records of a run, block by block.
-- Assumes nothing.
use mathlib.Core.Path.{◌≡◌, ap, ◌∙◌}
use Prim.Native.Nat.{ℕ, ◌+◌, ◌≤◌}
use native.Mathlib.Omega.{arith}
use mathlib.Core.Bool.{Bool}
use mathlib.Core.List.{[], ◌++◌}
use lib.ListN.{length, length-append}
use Rattle.fields.specs.Lists.{kept}
use Rattle.fields.specs.Bytes.{Bytes, pieces}
use Rattle.fields.proofs.ByteLaws.{length-pieces}
use Rattle.fields.proofs.ListLaws.{kept_append, length-kept}
use Rattle.release.specs.declared.run.Points.{Points}
use Rattle.release.specs.declared.kept_points.Chosen.{Chosen}
use Rattle.release.specs.Blocks.{records_of, TakesBlock}
use Rattle.release.specs.KeptPoints.{kept_of, Chooses}
use Rattle.release.proofs.kept_points.PickedLaws.{chosen_count}

module _ (keep : Bytes → Bool) where
  pub few_kept : (p : Points) → length (kept_of keep p) ≤ p.count
  few_kept p = omega (arith, length-kept keep (records_of p), length-pieces p.count p.record_length p.bytes.now)

  none_of : (n w : ℕ) (s : Bytes) → n ≡ 0 → kept keep (pieces n w s) ≡ []
  unfolding kept pieces
  none_of n w s e = rw e

  pub none_left : (p : Points) → p.count ≡ 0 → kept_of keep p ≡ []
  none_left p e = none_of p.count p.record_length p.bytes.now e

  -- the kept records of the first block, and those behind it
  pub kept_split : (p block rest : Points) → TakesBlock p block rest → kept_of keep p ≡ kept_of keep block ++ kept_of keep rest
  kept_split p block rest h = ap (kept keep) h.records ∙ kept_append keep (records_of block) (records_of rest)

  -- as many are chosen as are kept
  pub chosen_all : (p : Points) (c : Chosen) → p.count ≤ 64 → Chooses keep p c → c.count ≡ length (kept_of keep p)
  chosen_all p c few h = chosen_count p.record_length p.bytes.now c.places c.count (kept_of keep p) (omega (arith, h.few, h.size)) h.same

  pub count_split : (p block rest : Points) → TakesBlock p block rest → (c : Chosen) → Chooses keep block c
      → length (kept_of keep p) ≡ c.count + length (kept_of keep rest)
  count_split p block rest h c chosen =
      rw (kept_split p block rest h, length-append, chosen_all block c h.few chosen)
