-- `halving::halve`, which calls itself, meets its contract. Assumes nothing.
use mathlib.Core.Path.{◌≡◌, refl, sym, ap, ◌∙◌}
use Prim.Native.Nat.{ℕ, ◌+◌, ◌-◌, ◌/◌, ◌≤◌, ◌<◌}
use mathlib.Core.Bool.{Bool, false}
use mathlib.Core.List.{List}
use lib.ListN.{length, take, drop, length-take, length-drop}
use borrow.Author.Rules.{rules}
use Rattle.std.specs.Prelude.{◌==◌}
use Rattle.std.proofs.lemmas.Grind.{common_steps}
use Rattle.fields.specs.Bytes.{Bytes}
use native.Mathlib.Omega.{arith}
use Rattle.geokeys.specs.Places.{halved_in}
use Rattle.geokeys.proofs.halving.HalfLaws.{none_there, equal_there, larger_there, smaller_there, reads_fit}
use Rattle.geokeys.proofs.halving.+halve.Goals as goal

-- the key that was read, above the one that is looked for, or neither that nor equal
higher : (r n key : ℕ) → r ≡ n → key < r → key < n
higher r n key e h = rw (← e) h

lower : (r n key : ℕ) → r ≡ n → (r ≡ key → ⊥) → r ≤ key → n < key
lower r n key e other h = rw (← e) (omega (arith, other))

some_left : (es : List Bytes) (r : Bool) → r ≡ (length es == 0) → r ≡ false → 0 < length es
some_left es r e h = grind (arith, common_steps)

pub returns-then-is_empty : goal.returns-then-is_empty
returns-then-is_empty t c = none_there _ _ (search rules)

pub returns-then-read-key : goal.returns-then-read-key
returns-then-read-key t c =
    equal_there _ _ _ _ refl refl (some_left _ _ c.is_empty.ensures c.if-is_empty.false) _ refl (sym c.number_at-read.ensures.0 ∙ c.if-read-key.true)

pub one_more-requires : goal.one_more-requires
one_more-requires t c =
    let es = c.args.entries.now in
    reads_fit (take (length es / 2) es) _ _ (simp length-take (omega arith)) c.halve.ensures

pub returns-then-key-read : goal.returns-then-key-read
returns-then-key-read t c =
    ap halved_in c.one_more.ensures
    ∙ larger_there _ _ _ _ refl refl (some_left _ _ c.is_empty.ensures c.if-is_empty.false) _ _ refl (higher _ _ _ c.number_at-read.ensures.0 c.if-key-read.true) c.halve.ensures

pub one_more-requires-2 : goal.one_more-requires-2
one_more-requires-2 t c =
    let es = c.args.entries.now in
    let at = length es / 2 + 1 in
    reads_fit (take (length es - at) (drop at es)) _ _ (simp (length-take, length-drop) (omega arith)) c.halve-2.ensures

pub returns : goal.returns
returns t c =
    ap halved_in c.one_more-2.ensures
    ∙ smaller_there _ _ _ _ refl refl (some_left _ _ c.is_empty.ensures c.if-is_empty.false) _ _ refl (lower _ _ _ c.number_at-read.ensures.0 c.if-read-key.false c.if-key-read.false) c.halve-2.ensures
