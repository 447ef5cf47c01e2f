-- `geokeys::find_directory` meets its contract. Assumes nothing.
use mathlib.Core.Path.{◌≡◌, sym}
use Rattle.std.proofs.Common.{rules}
use native.Mathlib.Omega.{arith}
use Rattle.fields.specs.Checks.{Passes}
use Rattle.lasfile.specs.FileChecks.{file_verdict}
use Rattle.geokeys.proofs.SearchLaws.{placed, nowhere, low_place, file_refused, no_directory, directory_at}
use Rattle.geokeys.proofs.find_directory.Goals.{In_ok-check_file}
use Rattle.geokeys.proofs.find_directory.Goals as goal

passed : (c : In_ok-check_file) → file_verdict c.args.file.now ≡ Passes
passed c = sym c.in_ok-check_file.ensures

pub returns-in_err-check_file : goal.returns-in_err-check_file
returns-in_err-check_file c =
    let refused = file_refused c.args.file.now _ (sym c.in_err-check_file.ensures) in search (rules, refused)

pub checked_at-requires : goal.checked_at-requires
checked_at-requires c = omega (arith, low_place _ _ c.in-Some.is c.find_projection-found.ensures.1)

pub returns-in-Some : goal.returns-in-Some
returns-in-Some c =
    let searched = c.find_projection-found.ensures in
    let found = c.in-Some.is in
    directory_at _ (passed (goal.at.returns-in-Some c).In_ok-check_file) _ _ (low_place _ _ found searched.1) (placed _ _ _ searched.0 found) c.checked_at.ensures

pub returns-in-None : goal.returns-in-None
returns-in-None c = no_directory _ (passed (goal.at.returns-in-None c).In_ok-check_file) (nowhere _ _ c.find_projection-found.ensures.0 c.in-None.is)
