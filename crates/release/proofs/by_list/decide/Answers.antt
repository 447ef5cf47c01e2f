-- `by_list::decide` meets its contract. Assumes nothing.
use mathlib.Core.Path.{refl}
use Rattle.std.proofs.Common.{rules}
use Rattle.publicpart.specs.Cutting.{Lines}
use Rattle.release.proofs.by_list.DecideLaws.{counted_by, decided_room, decided_refused}
use Rattle.release.proofs.by_list.decide.Goals as goal

pub decide_room-requires : goal.decide_room-requires
decide_room-requires c =
    let a = c.args in
    counted_by a.sheet.now a.file.now a.list_length (Lines c.in_ok-lines.lines) c.in_ok-lines.ensures _ refl

pub returns : goal.returns
returns c out list o l =
    let a = c.args in
    decided_room a.sheet.now a.file.now a.room a.list_length (Lines c.in_ok-lines.lines) c.in_ok-lines.ensures _ refl _ c.decide_room.ensures out list o l

pub returns-in_err-lines : goal.returns-in_err-lines
returns-in_err-lines c out list o l =
    let a = c.args in
    let refused = decided_refused a.sheet.now a.file.now a.list_length _ c.in_err-lines.ensures _ refl out list l in
    search (rules, refused)
