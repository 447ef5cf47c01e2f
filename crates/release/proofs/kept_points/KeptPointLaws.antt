-- Laws of the kept points of a run that holds all the records, and of what is kept where there is no box.
-- Assumes nothing.
use mathlib.Core.Path.{◌≡◌, sym}
use Prim.Native.Nat.{ℕ}
use mathlib.Core.Bool.{Bool, true, and-true}
use mathlib.Core.List.{List}
use lib.Dec.{eqb}
use Rattle.sheet.specs.declared.boxes.Boxes.{Boxes}
use lib.ListN.{length}
use Rattle.fields.specs.Lists.{kept}
use Rattle.fields.specs.Bytes.{Bytes, pieces}
use Rattle.fields.proofs.ListLaws.{kept_same, all_of}
use Rattle.sheet.specs.Keeping.{in_table}
use Rattle.sheet.specs.Boxes.{box_count, in_any, in_boxes, keeps_by}
use Rattle.points.proofs.raw.RunLaws.{InRun, points_held}
use Rattle.release.specs.declared.run.Points.{Points}
use Rattle.release.specs.Blocks.{records_of}
use Rattle.release.specs.KeptPoints.{kept_points, kept_of}

pub kept_held : (keep : Bytes → Bool) (count len : ℕ) (run : Bytes) → InRun count len (length run)
    → kept_points keep count len run ≡ kept keep (pieces count len run)
unfolding kept_points
kept_held keep count len run h = rw (points_held count len run h)

-- ---- with no box the table decides

by_table : (table : List Bool) (boxes : Boxes) (f : ℕ) → eqb (box_count boxes) 0 ≡ true → (p : Bytes) → in_table table f p ≡ keeps_by table boxes f p
unfolding keeps_by in_boxes in_any
by_table table boxes f none p = rw none (sym (and-true (in_table table f p)))

pub kept_by_table : (table : List Bool) (boxes : Boxes) (f : ℕ) (p : Points) → eqb (box_count boxes) 0 ≡ true
    → kept_of (in_table table f) p ≡ kept_of (keeps_by table boxes f) p
kept_by_table table boxes f p none =
    kept_same (in_table table f) (keeps_by table boxes f) (records_of p) (all_of _ (records_of p) (by_table table boxes f none))
