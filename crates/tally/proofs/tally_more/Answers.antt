-- `tally_more` meets its contract. Assumes nothing.
use mathlib.Core.Path.{◌≡◌, refl, sym, ap, ◌∙◌}
use Prim.Native.Nat.{ℕ, ◌^◌}
use native.Mathlib.Omega.{arith}
use mathlib.Core.Bool.{Bool, true, false, ◌&&◌}
use mathlib.Core.List.{foldl}
use lib.ListN.{length}
use Rattle.fields.specs.Bytes.{Bytes}
use Rattle.points.specs.Raw.{in_run, points_of}
use Rattle.points.proofs.raw.RunLaws.{InRun, both, in_run_lem, points_held, points_none}
use Rattle.tally.specs.declared.Tally.{Tally}
use Rattle.tally.specs.Tally.{counts_fit, tallied, tally_more}
use Rattle.tally.proofs.CountLaws.{counts_up, fitting, more_fits, more_none, more_over}
use Rattle.tally.proofs.tally_more.Goals.{Then-counts_fit-holds}
use Rattle.tally.proofs.tally_more.Goals as goal

-- the counts fit, and the run holds the records
held : (c : Then-counts_fit-holds) → let a = c.args in (counts_fit a.t ≡ true) × InRun a.count a.record_length (length a.run.now)
held c =
    let both_hold = both _ _ c.if-counts_fit-holds.true in
    (sym c.counts_fit.ensures ∙ both_hold.0, in_run_lem _ _ _ (sym c.holds.ensures ∙ both_hold.1))

-- one of the two does not
unheld : (f : ℕ) (t : Tally) (count len : ℕ) (run : Bytes) (b : Bool) → counts_fit t ≡ b → b && in_run count len (length run) ≡ false → t ≡ tally_more f t (points_of count len run)
unheld f t count len run true e h = rw (points_none count len run h) (sym (more_none f t))
unheld f t count len run false e h = sym (more_over f t _ e)

pub tally_run-requires : goal.tally_run-requires
tally_run-requires c =
    let h = held c in
    (h.1.few, h.1.within, counts_up _ 4294967295 (2 ^ 32) (fitting _ h.0) (omega arith))

pub returns-then-counts_fit-holds : goal.returns-then-counts_fit-holds
returns-then-counts_fit-holds c =
    let a = c.args in
    let h = held (goal.at.returns-then-counts_fit-holds c).Then-counts_fit-holds in
    c.tally_run.ensures ∙ sym (more_fits a.format a.t _ h.0 ∙ ap (foldl (tallied a.format) a.t) (points_held a.count a.record_length a.run.now h.1))

pub returns : goal.returns
returns c =
    let a = c.args in
    unheld a.format a.t a.count a.record_length a.run.now _ refl (rw (← c.counts_fit.ensures, ← c.holds.ensures) c.if-counts_fit-holds.false)
