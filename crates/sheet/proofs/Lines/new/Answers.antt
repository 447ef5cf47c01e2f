-- `Lines::new` meets its contract. Assumes nothing.
use Rattle.std.proofs.Common.{sym}
use Rattle.sheet.proofs.LineLaws.{lines_from_lem}
use Rattle.sheet.proofs.Lines.new.Goals as goal

pub returns : goal.returns
returns c = sym (lines_from_lem c.args.sheet.now)
