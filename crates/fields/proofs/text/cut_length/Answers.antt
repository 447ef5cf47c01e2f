-- `text::cut_length` meets its contract. Assumes nothing.
use mathlib.Core.Path.{◌≡◌, refl, sym, ◌∙◌}
use Prim.Native.Nat.{◌+◌}
use native.Mathlib.Omega.{arith}
use lib.ListN.{get_or-eq_default}
use Rattle.fields.proofs.text.EndLaws.{end_begins, end_stops, end_waits, end_moves}
use Rattle.fields.proofs.text.cut_length.Goals as goal
use Rattle.fields.proofs.text.cut_length.Goals.{then-byte-eq32, else-byte-eq32}

pub loop-byte-init : goal.loop-byte-init
loop-byte-init c = (refl, end_begins c.args.text.now)

pub returns-then-byte-eq0 : goal.returns-then-byte-eq0
returns-then-byte-eq0 c =
    let l = c.loop-byte in
    sym (l.invariant.1 ∙ end_stops l.end l.byte-index c.args.text.now c.if-byte-eq0.true)

pub loop-byte-preserved : goal.loop-byte-preserved
loop-byte-preserved c =
    let l = c.loop-byte in
    let t = c.args.text.now in
    elim c.if-byte-eq32.branch [
      | then-byte-eq32 w ↦ (
        omega (arith, w.end-is, w.spaces-is, l.invariant.0),
        rw w.end-is (l.invariant.1 ∙ end_waits l.end l.byte-index t w.if-byte-eq32.true),
      )
      | else-byte-eq32 w ↦
          let e : c.if-byte-eq32.end ≡ l.byte-index + 1 = omega (arith, w.end-is, l.invariant.0) in (
            omega (arith, w.end-is, w.spaces-is, l.invariant.0),
            rw e (l.invariant.1 ∙ end_moves l.end l.byte-index t c.if-byte-eq0.false w.if-byte-eq32.false),
          )
    ]

pub returns : goal.returns
returns c =
    let t = c.args.text.now in
    let l = c.loop-byte in
    sym (l.invariant.1 ∙ end_stops l.end l.byte-index t (get_or-eq_default t 0 {n = l.byte-index} (omega arith)))
