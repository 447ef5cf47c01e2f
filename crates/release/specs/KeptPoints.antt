-- The points of a run that are kept.
-- Assumes nothing.
use Rattle.std.specs.Prelude.{◌≡◌, ℕ, ◌+◌, ◌≤◌, Bool, List, [], ◌∷◌, length, take}
use Rattle.fields.specs.Lists.{All, kept}
use Rattle.fields.specs.Bytes.{Bytes, part}
use Rattle.points.specs.Raw.{points_of}
use Rattle.release.specs.declared.run.Points.{Points}
use Rattle.release.specs.declared.kept_points.Chosen.{Chosen}
use Rattle.release.specs.Blocks.{records_of}

-- those of the points of a run that pass a test
unfoldable pub kept_points : (Bytes → Bool) → ℕ → ℕ → Bytes → List Bytes
kept_points keep count len run = kept keep (points_of count len run)

-- the same of a run that holds them all
abbrev pub kept_of : (Bytes → Bool) → Points → List Bytes
kept_of keep p = kept keep (records_of p)

-- ---- records by their places

-- the records of `len` bytes at these places of a run
unfoldable pub picked : ℕ → Bytes → List ℕ → List Bytes
picked len run [] = []
picked len run (at ∷ places) = part at len run ∷ picked len run places

-- each of these places has a record of `len` bytes
abbrev pub Places : ℕ → Bytes → List ℕ → Type 0
Places len run places = All (λ at. at + len ≤ length run) places

-- the places that were chosen
abbrev pub chosen_of : Chosen → List ℕ
chosen_of c = take c.count c.places

-- they are those of the kept records of a block, in order
pub record Chooses (keep : Bytes → Bool) (p : Points) (c : Chosen) : Type 0 where
  pub size : length c.places ≡ 64
  pub few : c.count ≤ p.count
  pub same : picked p.record_length p.bytes.now (chosen_of c) ≡ kept_of keep p
  pub places : Places p.record_length p.bytes.now (chosen_of c)

-- of those that were chosen the kept ones stay
pub record Leaves (keep : Bytes → Bool) (p : Points) (before after : Chosen) : Type 0 where
  pub size : length after.places ≡ 64
  pub few : after.count ≤ before.count
  pub same : picked p.record_length p.bytes.now (chosen_of after) ≡ kept keep (picked p.record_length p.bytes.now (chosen_of before))
  pub places : Places p.record_length p.bytes.now (chosen_of after)
