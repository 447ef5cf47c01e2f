-- `writing::write_records` meets its contract. Assumes nothing.
use Rattle.release.proofs.writing.ItemLaws.{record_out, record_long, record_left}
use Rattle.release.proofs.writing.write_records.Goals as goal

pub loop-line-preserved : goal.loop-line-preserved
loop-line-preserved c =
    let l = c.loop-line in
    let wrote = c.write_record-to in
    record {
      out = record_out _ _ l.line-index c.loop-line-test.true _ _ _ _ _ _ wrote.ensures.0 wrote.ensures.1 l.invariant.out;
      left = record_left _ _ l.line-index c.loop-line-test.true c.args.out.now l.out wrote.new.out _ _ _ wrote.ensures.0 l.invariant.left;
      long = record_long _ _ l.line-index c.loop-line-test.true _ _ _ c.args.from _ _ wrote.ensures.0 wrote.ensures.1 l.invariant.long;
    }
