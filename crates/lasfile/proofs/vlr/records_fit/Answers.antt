-- `vlr::records_fit` meets its contract. Assumes nothing.
use mathlib.Core.Path.{refl}
use Prim.Native.Nat.{◌+◌}
use Rattle.std.proofs.Common.{arith}
use borrow.Author.Tests.{le-leb, lt-leb}
use Rattle.lasfile.specs.Records.{size_of}
use Rattle.lasfile.proofs.vlr.PlacedLaws.{header_past, one_past, one_fits}
use Rattle.lasfile.proofs.vlr.records_fit.Goals as goal

pub returns-then-end-header_size : goal.returns-then-end-header_size
returns-then-end-header_size c = header_past _ _ (omega arith)

pub returns-then-end-vlr : goal.returns-then-end-vlr
returns-then-end-vlr c =
    let v = c.in-Some.vlr in
    one_past _ _ _ _ _ _ _ c.in-Some.ensures.steps c.loop-vlr.invariant.same refl
    (lt-leb (v.place + size_of 2 v.bytes.now) c.args.end (omega (arith, v.ends, c.if-end-vlr.true)))

pub loop-vlr-preserved : goal.loop-vlr-preserved
loop-vlr-preserved c =
    let v = c.in-Some.vlr in
    record {
      same =
          one_fits _ _ _ _ _ _ _ c.in-Some.ensures.steps c.loop-vlr.invariant.same refl
          (le-leb (v.place + size_of 2 v.bytes.now) c.args.end (omega (arith, v.ends, c.if-end-vlr.false)));
    }
