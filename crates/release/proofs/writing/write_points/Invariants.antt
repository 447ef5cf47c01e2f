-- What the loop of `writing::write_points` keeps: with the points of the lines that are left the output is what it is
-- to be. Assumes nothing.
use Rattle.std.proofs.Common.{◌≡◌, ◌+◌, length, drop}
use Rattle.std.proofs.lemmas.List.Edits.{sets}
use Rattle.release.specs.Writing.{points_named}
use Rattle.release.proofs.writing.write_points.Given as goal

abbrev pub invariant-loop-line : goal.invariant-loop-line
invariant-loop-line l =
    record {
      out : sets l.out l.to (points_named l.file (drop l.line-index l.list)) ≡ sets l.initial.out l.from (points_named l.file l.list);
      left : l.to + length (points_named l.file (drop l.line-index l.list)) ≡ l.from + length (points_named l.file l.list);
      long : length l.out ≡ length l.initial.out;
    }
