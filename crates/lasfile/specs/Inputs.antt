-- The numbers that only the program gives for what it reads.
-- Assumes nothing.
use Rattle.std.specs.Prelude.{ℕ, Bool, List, [], ◌∷◌}
use Rattle.fields.specs.Checks.{Check, not_so, ◌below◌}

-- of a file that was opened and read to its end or not, and the number of bytes read: 51 before 50
unfoldable pub input_checks : Bool → ℕ → List Check
input_checks is_read length =
    (51, not_so is_read)
    ∷ (50, 32768 below length)
    ∷ []
