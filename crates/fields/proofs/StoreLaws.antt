-- Laws of bytes that were stored at a place: they are read back, and what lies outside stays.
-- Assumes nothing.
use mathlib.Core.Path.{◌≡◌, refl, sym, ap, ◌∙◌}
use mathlib.Core.Logic.{◌⊎◌, inl, inr}
use Prim.Native.Nat.{ℕ, zero, suc, ◌+◌, ◌-◌, ◌≤◌, ◌<◌, min}
use native.Mathlib.Nat.{eq-zero-or-pos}
use native.Mathlib.Omega.{arith}
use mathlib.Core.Bool.{cond}
use mathlib.Core.List.{[], ◌∷◌, ◌++◌, append_assoc, append-nil}
use lib.ListN.{length, take, drop, set, length-set, length-drop, take-append-drop, drop_of_length-le, length-replicate}
use lib.Dec.{leb}
use borrow.Author.Tests.{le-leb}
use lib.Seq.{take_all, sets, sets-eq, paste, length-take-le, take_at, drop_at, set_comm, set_out, drop-set-lt, drop-set-add, take-set-le, drop-drop}
use borrow.Rule.Slice.PartMut.{put_mid}
use Rattle.std.proofs.lemmas.Grind.{common_steps}
use Rattle.fields.specs.Bytes.{Bytes, part, zeros}

-- one run behind another
pub sets-append : (d : Bytes) (at : ℕ) (xs ys : Bytes) → sets d at (xs ++ ys) ≡ sets (sets d at xs) (at + length xs) ys
sets-append d at [] ys = let e : at + 0 ≡ at = omega arith in rw e
sets-append d at (x ∷ xs) ys =
    let e : at + suc (length xs) ≡ suc at + length xs = omega arith in
    rw e (sets-append (set d at x) (suc at) xs ys)

-- a field of known width, and what is stored behind it
pub store_behind : (d : Bytes) (at p w : ℕ) (f rest : Bytes) → length f ≡ w → p ≡ at + w → sets (sets d at f) p rest ≡ sets d at (f ++ rest)
store_behind d at p w f rest e q = sym (sets-append d at f rest ∙ rw (e, ← q))

-- a byte before a run that is stored already
set_before : (d : Bytes) (i p x : ℕ) (ys : Bytes) → i < p → set (sets d p ys) i x ≡ sets (set d i x) p ys
set_before d i p x [] h = refl
set_before d i p x (y ∷ ys) h =
    set_before (set d p y) i (suc p) x ys (omega arith) ∙ ap (λ (e : Bytes). sets e (suc p) ys) (set_comm d p i y x (λ e. absurd (omega (arith, e))))

-- of two runs, the one behind may be stored first
pub sets_swap : (d : Bytes) (at p : ℕ) (xs ys : Bytes) → at + length xs ≤ p → sets (sets d p ys) at xs ≡ sets (sets d at xs) p ys
sets_swap d at p [] ys h = refl
sets_swap d at p (x ∷ xs) ys h = rw (set_before d at p x ys (omega arith)) (sets_swap (set d at x) (suc at) p xs ys (omega arith))

-- past the end nothing is stored
pub sets_out : (d : Bytes) (at : ℕ) (xs : Bytes) → length d ≤ at → sets d at xs ≡ d
sets_out d at [] h = refl
sets_out d at (x ∷ xs) h = rw (set_out d at x h) (sets_out d (suc at) xs (omega arith))

pub sets_room : (d : Bytes) (at n : ℕ) (xs : Bytes) → length d ≤ at + n → sets d at (take n xs) ≡ sets d at xs
sets_room d at zero xs h = sym (sets_out d at xs (omega arith))
sets_room d at (suc n) [] h = refl
sets_room d at (suc n) (x ∷ xs) h = sets_room (set d at x) (suc at) n xs (simp length-set (omega arith))

-- as many bytes as there is room for
pub sets_least : (d : Bytes) (at n : ℕ) (xs : Bytes) → at ≤ length d → n ≡ min (length xs) (length d - at) → sets d at (take n xs) ≡ sets d at xs
sets_least d at n xs h e = go (eq-zero-or-pos (length d - (at + n)))
  where
    go : (length d - (at + n) ≡ 0) ⊎ (0 < length d - (at + n)) → sets d at (take n xs) ≡ sets d at xs
    go (inl k) = sets_room d at n xs (omega arith)
    go (inr k) = ap (sets d at) (take_all n xs (omega arith))

-- a copy of n bytes is a run of stores
pub paste-sets : (d : Bytes) (at : ℕ) (s : Bytes) (n : ℕ) → n ≤ length s → at + n ≤ length d → paste d at s n ≡ sets d at (take n s)
paste-sets d at s n hs hd =
    let e : length (take n s) ≡ n = length-take-le n s hs in
    sym (sets-eq (take n s) d at (rw e hd) ∙ ap (λ (k : ℕ). take at d ++ take n s ++ drop (at + k) d) e)

-- what was written into a part is a run of stores, and so are zeros, as far as there is room for them
pub put_mid_sets : (d xs : Bytes) (at n : ℕ) → length xs ≡ n → at + n ≤ length d → put_mid at n d xs ≡ sets d at xs
put_mid_sets d xs at n = grind (arith, common_steps, sets-eq)

take-zeros : (m n : ℕ) → m ≤ n → take m (zeros n) ≡ zeros m
take-zeros zero n h = refl
take-zeros (suc m) zero h = absurd (omega arith)
take-zeros (suc m) (suc n) h = ap (λ (r : Bytes). 0 ∷ r) (take-zeros m n (omega arith))

pub sets_zeros : (d : Bytes) (at n m : ℕ) → at ≤ length d → m ≡ min n (length d - at) → sets d at (zeros m) ≡ sets d at (zeros n)
sets_zeros d at n m h e = rw (← take-zeros m n (omega arith)) (sets_least d at m (zeros n) h (simp length-replicate e))

-- what was stored whole or not at all, where there is room
pub stored_whole : (d : Bytes) (at : ℕ) (xs r : Bytes) → r ≡ cond (leb (at + length xs) (length d)) (sets d at xs) d → at + length xs ≤ length d → r ≡ sets d at xs
stored_whole d at xs r e h = e ∙ rw (le-leb (at + length xs) (length d) h)

-- ---- a part from a place on, lent and come back

-- the part of a list from a place to its end
pub tail_part : (l : Bytes) (a : ℕ) → take (length l - a) (drop a l) ≡ drop a l
tail_part l a = take_all (length l - a) (drop a l) (simp length-drop (omega arith))

-- storing in the part is storing in the whole
pub sets_tail : (l : Bytes) (a i : ℕ) (xs : Bytes) → take a l ++ sets (drop a l) i xs ≡ sets l (a + i) xs
sets_tail l a i [] = take-append-drop a l
sets_tail l a i (x ∷ xs) =
    let front : take a l ≡ take a (set l (a + i) x) = sym (take-set-le a l (a + i) x (omega arith)) in
    let back : set (drop a l) i x ≡ drop a (set l (a + i) x) = sym (drop-set-add a l i x) in
    let e : a + suc i ≡ suc (a + i) = omega arith in
    rw (front, back) (rw e at (sets_tail (set l (a + i) x) a (suc i) xs))

-- a part that was lent to be stored in, and is back
pub lent_back : (l ys : Bytes) (a : ℕ) (xs : Bytes) → ys ≡ sets (take (length l - a) (drop a l)) 0 xs
    → take a l ++ (ys ++ drop (length l - a) (drop a l)) ≡ sets l a xs
lent_back l ys a xs e =
    let none : drop (length l - a) (drop a l) ≡ [] = drop_of_length-le (drop a l) {i = length l - a} (simp length-drop (omega arith)) in
    let z : a + 0 ≡ a = omega arith in
    rw (e, none, append-nil, tail_part l a) (rw z at (sets_tail l a 0 xs))

-- ---- what was stored is read back

pub part_stored : (at w : ℕ) (b s : Bytes) → length b ≡ w → at + w ≤ length s → part at w (sets s at b) ≡ b
unfolding part
part_stored at w b s e h =
    let front : length (take at s) ≡ at = length-take-le at s (omega arith) in
    let whole : sets s at b ≡ take at s ++ (b ++ drop (at + length b) s) = sets-eq b s at (rw e h) ∙ append_assoc (take at s) b (drop (at + length b) s) in
    rw (whole, drop_at (take at s) (b ++ drop (at + length b) s) at front) (take_at b (drop (at + length b) s) w e)

-- ---- what lies outside stays

-- a part that ends before the place i, or begins behind it
abbrev pub Apart : ℕ → ℕ → ℕ → ℕ → Type 0
Apart a w at n = (a + w ≤ at) ⊎ (at + n ≤ a)

part-set : (a w i v : ℕ) (s : Bytes) → Apart a w i 1 → part a w (set s i v) ≡ part a w s
unfolding part
part-set a w i v s (inl h) =
    let e : i ≡ a + (i - a) = omega arith in
    rw e (rw drop-set-add (take-set-le w (drop a s) (i - a) v (omega arith)))
part-set a w i v s (inr h) = rw (drop-set-lt a s i v (omega arith))

first_apart : (a w at n : ℕ) → Apart a w at (suc n) → Apart a w at 1
first_apart a w at n (inl h) = inl h
first_apart a w at n (inr h) = inr (omega arith)

rest_apart : (a w at n : ℕ) → Apart a w at (suc n) → Apart a w (suc at) n
rest_apart a w at n (inl h) = inl (omega arith)
rest_apart a w at n (inr h) = inr (omega arith)

pub part_outside : (a w at : ℕ) (b s : Bytes) → Apart a w at (length b) → part a w (sets s at b) ≡ part a w s
part_outside a w at [] s h = refl
part_outside a w at (x ∷ xs) s h =
    part_outside a w (suc at) xs (set s at x) (rest_apart a w at (length xs) h) ∙ part-set a w at x s (first_apart a w at (length xs) h)

-- what begins behind it
pub drop_behind : (a at : ℕ) (b s : Bytes) → at + length b ≤ a → drop a (sets s at b) ≡ drop a s
drop_behind a at [] s h = refl
drop_behind a at (x ∷ xs) s h = drop_behind a (suc at) xs (set s at x) (omega arith) ∙ drop-set-lt a s at x (omega arith)

-- ---- what stands there already

pub sets_same : (at : ℕ) (b s : Bytes) → at + length b ≤ length s → part at (length b) s ≡ b → sets s at b ≡ s
unfolding part
sets_same at b s h e =
    let behind : drop (at + length b) s ≡ drop (length b) (drop at s) = sym (drop-drop (length b) at s) in
    sets-eq b s at h
    ∙ append_assoc (take at s) b (drop (at + length b) s)
    ∙ ap (λ (r : Bytes). take at s ++ r) (ap (λ (r : Bytes). r ++ drop (at + length b) s) (sym e) ∙ rw behind (take-append-drop (length b) (drop at s)))
    ∙ take-append-drop at s

-- for functions that write zeros
pub ruleset zeroing = (put_mid_sets, sets_zeros, sets_out)
