-- The keep sheet: its lines and its checks.
-- Assumes nothing.
use Rattle.std.specs.Prelude.{ℕ, zero, suc, ◌+◌, ◌*◌, Bool, not, ◌&&◌, ◌||◌, List, [], ◌∷◌, length, get_or, take, drop, leb, eqb, cond, Option, Some, None, ℤ}
use Rattle.std.specs.Int.Signed.{le_z}
use Rattle.std.specs.Int.{w32}
use Rattle.std.proofs.Common.{to_z}
use Rattle.fields.specs.Checks.{Verdict, Passes, Fails, Check, ◌below◌, ◌differs_from◌, not_so, first_failing, then}
use Rattle.fields.specs.Bytes.{Bytes, part, num}
use Rattle.sheet.specs.declared.Kind.{Kind}
use Rattle.sheet.specs.declared.Kind.TheVariants.{Classes, Record, Region}
use Rattle.fields.specs.Text.{cut}

-- ---- a line: the bytes 4B 53, a kind byte, and what the kind has

unfoldable pub kind : Bytes → ℕ
kind l = get_or l 2 0

-- a line's length by its kind: 5 for kind 1, 21 for kind 2, 27 for kind 3, and 0 for an unknown kind
unfoldable pub line_length : ℕ → ℕ
line_length k = get_or (0 ∷ 5 ∷ 21 ∷ 27 ∷ []) k 0

-- the kinds as the code tells them apart, and their lengths; no public contract cites these
abbrev pub kind_of : ℕ → Option Kind
kind_of k = cond (eqb k 1) (Some Classes) (cond (eqb k 2) (Some Record) (cond (eqb k 3) (Some Region) None))

abbrev pub length_of : Kind → ℕ
length_of Classes = 5
length_of Record = 21
length_of Region = 27

-- of a kind 1 line: the lowest and the highest class
unfoldable pub lowest : Bytes → ℕ
lowest l = get_or l 3 0

unfoldable pub highest : Bytes → ℕ
highest l = get_or l 4 0

-- of a kind 2 line: the cut user ID and the record ID
unfoldable pub user_id : Bytes → Bytes
user_id l = cut (part 3 16 l)

unfoldable pub record_id : Bytes → ℕ
record_id l = num (part 19 2 l)

-- of a kind 3 line, a box: number i of its six stored values, in two's complement; they are low X, high X, low Y,
-- high Y, low Z, high Z
unfoldable pub edge : ℕ → Bytes → ℤ
edge i l = to_z w32 (num (part (3 + 4 * i) 4 l))

-- its low and its high on an axis: X is 0, Y is 1, Z is 2
unfoldable pub low : ℕ → Bytes → ℤ
low axis l = edge (2 * axis) l

unfoldable pub high : ℕ → Bytes → ℤ
high axis l = edge (2 * axis + 1) l

-- whether something holds on every axis
unfoldable pub on_every_axis : (ℕ → Bool) → Bool
on_every_axis holds = holds 0 && (holds 1 && holds 2)

-- ---- lines back to back

-- the line that bytes begin with, and what follows it
unfoldable pub first_line : Bytes → Bytes
first_line s = take (line_length (kind s)) s

unfoldable pub after_line : Bytes → Bytes
after_line s = drop (line_length (kind s)) s

-- at most n lines; of an unknown kind they are empty, and such a sheet does not pass
unfoldable pub lines_from : ℕ → Bytes → List Bytes
lines_from zero s = []
lines_from (suc n) [] = []
lines_from (suc n) (b ∷ bs) = first_line (b ∷ bs) ∷ lines_from n (after_line (b ∷ bs))

unfoldable pub lines : Bytes → List Bytes
lines = lines_from 64

-- ---- 20 to 24

-- a box has no low above its high
unfoldable pub box_in_order : Bytes → Bool
box_in_order l = on_every_axis (λ axis. le_z (low axis l) (high axis l))

-- only a kind 1 line has a lowest and a highest class, and only a kind 3 line lows and highs
unfoldable pub in_order : Bytes → Bool
in_order l = (not (eqb (kind l) 1) || leb (lowest l) (highest l)) && (not (eqb (kind l) 3) || box_in_order l)

-- of the bytes that are left where a line begins
unfoldable pub line_checks : Bytes → List Check
line_checks s =
    (22, length s below 3)
    ∷ (20, part 0 2 s differs_from 0x4B ∷ 0x53 ∷ [])
    ∷ (21, line_length (kind s) below 1)
    ∷ (22, length s below line_length (kind s))
    ∷ (23, not_so (in_order s))
    ∷ []

-- line by line, where at most n more may begin
unfoldable pub lines_verdict : ℕ → Bytes → Verdict
lines_verdict zero [] = Passes
lines_verdict zero (b ∷ bs) = Fails 24
lines_verdict (suc n) [] = Passes
lines_verdict (suc n) (b ∷ bs) = then (first_failing (line_checks (b ∷ bs))) (lines_verdict n (after_line (b ∷ bs)))

unfoldable pub sheet_verdict : Bytes → Verdict
sheet_verdict = lines_verdict 64
