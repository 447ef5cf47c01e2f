-- An answer turned into numbers, beside what was lent, as it is afterwards.
-- Assumes nothing.
use mathlib.Core.Path.{◌≡◌, ◌∙◌, ap}

pub in_numbers :
    {A B C : Type 0} (f : A → B) {r : B} {a : A} {after : C} {o : A × C}
    → r ≡ f a
    → ◌≡◌ {A = A × C} (a, after) o
    → ◌≡◌ {A = B × C} (r, after) (f o.0, o.1)
in_numbers f e outcome i = ((e ∙ ap (λ p. f p.0) outcome) i, (outcome i).1)
