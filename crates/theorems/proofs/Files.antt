-- A file passes exactly if it is as it should be, and records that are written are read back: the laws of crate
-- `lasfile`.
-- Assumes nothing.
use Rattle.lasfile.proofs.Passed.{passed, passes}
use Rattle.lasfile.proofs.vlr.RecordLaws.{walk_back, walk_end_back}
use Rattle.theorems.specs.Files.{Files}

pub files : Files
files = record { passes = λ s. (passed s, passes s); walk_back = walk_back; walk_end_back = walk_end_back }
