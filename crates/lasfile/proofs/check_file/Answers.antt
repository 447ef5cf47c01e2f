-- `lasfile::check_file` meets its contract: checks 1 to 7, and then the others. Assumes nothing.
use Rattle.std.proofs.Common.{rules}
use mathlib.Core.Path.{◌∙◌}
use Rattle.fields.proofs.CheckLaws.{fails_in_front, passes_in_front}
use Rattle.lasfile.specs.FileChecks.{file_checks, file_verdict}
use Rattle.lasfile.proofs.check_file.Goals as goal

pub returns-in_err-check_header : goal.returns-in_err-check_header
unfolding file_verdict
returns-in_err-check_header c =
    let e = fails_in_front 7 (file_checks c.args.file.now) _ (c.in_err-check_header.ensures) in search (rules, e)

pub returns : goal.returns
unfolding file_verdict
returns c = c.check_contents.ensures ∙ passes_in_front 7 (file_checks c.args.file.now) (c.in_ok-check_header.ensures)
