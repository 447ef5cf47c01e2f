-- `answers::mark_numbers` meets its contract: twelve marks, one by one. Assumes nothing.
use mathlib.Core.Path.{◌≡◌, refl, ap, ◌∙◌}
use Prim.Native.Nat.{ℕ, zero, suc}
use native.Mathlib.Omega.{arith}
use mathlib.Core.Bool.{Bool, false}
use mathlib.Core.List.{List, [], ◌∷◌, map}
use lib.ListN.{length, get_or}
use mir.Val.{bool_byte}
use Rattle.capi.specs.Answers.{mark_numbers}
use Rattle.capi.proofs.answers.mark_numbers.Goals as goal

-- n of them, from number i on
abbrev from : ℕ → ℕ → List Bool → List ℕ
from i zero ms = []
from i (suc n) ms = bool_byte (get_or ms i false) ∷ from (suc i) n ms

behind : (i n : ℕ) (m : Bool) (ms : List Bool) → from (suc i) n (m ∷ ms) ≡ from i n ms
behind i zero m ms = refl
behind i (suc n) m ms = ap (λ (l : List ℕ). bool_byte (get_or ms i false) ∷ l) (behind (suc i) n m ms)

all_marks : (n : ℕ) (ms : List Bool) → length ms ≡ n → from 0 n ms ≡ map bool_byte ms
all_marks zero [] e = refl
all_marks zero (m ∷ ms) e = absurd (omega arith)
all_marks (suc n) [] e = absurd (omega arith)
all_marks (suc n) (m ∷ ms) e = ap (λ (l : List ℕ). bool_byte m ∷ l) (behind 0 n m ms ∙ all_marks n ms (omega arith))

pub returns : goal.returns
unfolding mark_numbers
returns c = all_marks 12 c.args.m (omega (arith, c.well_formed))
