-- Laws of copies, byte by byte and by blocks. Assumes nothing.
use mathlib.Core.Path.{◌≡◌, sym, ap, ◌∙◌}
use mathlib.Core.List.{List, ◌++◌, append_assoc}
use Prim.Native.Nat.{ℕ, ◌+◌, ◌-◌, ◌≤◌, ◌<◌}
use native.Mathlib.Numerals.{add-one}
use native.Mathlib.Omega.{arith}
use lib.ListN.{length, take, drop, get_or, set}
use native.Mathlib.Nat.{add_assoc}
use lib.Seq.{paste, paste-suc, length_paste_head, drop-paste, length-take-le, take-append-le, take-append-add, take-take, take-add, drop-drop}

-- a turn of a loop that copies from the front on
pub paste_next : (d : List ℕ) (at : ℕ) (s : List ℕ) (i : ℕ) → at + i < length d → i < length s
    → set (paste d at s i) (at + i) (get_or s i 0) ≡ paste d at s (i + 1)
paste_next d at s i hd hs = rw add-one (paste-suc d at s i 0 hd hs)

-- a second copy, from within the first on or from its end, and at least to its end
pub paste_over : (d : List ℕ) (at : ℕ) (s : List ℕ) (i j m : ℕ) → at + (j + m) ≤ length d → j + m ≤ length s → j ≤ i → i ≤ j + m
    → paste (paste d at s i) (at + j) (drop j s) m ≡ paste d at s (j + m)
paste_over d at s i j m hd hs ji im =
    let head : length (take at d) ≡ at = length-take-le at d (omega arith) in
    let first : take (at + j) (paste d at s i) ≡ take at d ++ take j s =
    take-append-le (at + j) (take at d ++ take i s) (drop (at + i) d) (rw (length_paste_head d at s i (omega arith) (omega arith)) (omega arith))
    ∙ ap (λ (k : ℕ). take (k + j) (take at d ++ take i s)) (sym head)
    ∙ take-append-add (take at d) (take i s) j
    ∙ ap (λ (l : List ℕ). take at d ++ l) (take-take j i s ji) in
    let past : at + j + m ≡ (at + i) + (j + m - i) = omega arith in
    let last : drop (at + j + m) (paste d at s i) ≡ drop (at + (j + m)) d =
    ap (λ (k : ℕ). drop k (paste d at s i)) past
    ∙ sym (drop-drop (j + m - i) (at + i) (paste d at s i))
    ∙ ap (λ (l : List ℕ). drop (j + m - i) l) (drop-paste d at s i (omega arith) (omega arith))
    ∙ drop-drop (j + m - i) (at + i) d
    ∙ ap (λ (k : ℕ). drop k d) (sym past ∙ add_assoc at j m) in
    rw (first, last, take-add j m s, append_assoc (take at d) (take j s) (take m (drop j s)))
