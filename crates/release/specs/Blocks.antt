-- A run of points, block by block; no public contract cites these.
-- Assumes nothing.
use Rattle.std.specs.Prelude.{◌≡◌, ◌+◌, ◌≤◌, ◌<◌, List, ◌++◌}
use Rattle.fields.specs.Bytes.{Bytes, pieces}
use Rattle.release.specs.declared.run.Points.{Points}

-- the records of a run
abbrev pub records_of : Points → List Bytes
records_of p = pieces p.count p.record_length p.bytes.now

-- the first block of a run, and what is left behind it
pub record TakesBlock (p block rest : Points) : Type 0 where
  pub some : 0 < block.count
  pub few : block.count ≤ 64
  pub count : p.count ≡ block.count + rest.count
  pub records : records_of p ≡ records_of block ++ records_of rest
  pub format : block.format ≡ p.format
  pub size : block.record_length ≡ p.record_length
  pub rest_format : rest.format ≡ p.format
  pub rest_size : rest.record_length ≡ p.record_length
