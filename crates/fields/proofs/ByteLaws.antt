-- Laws of bytes: numbers out of their bytes and back, parts, fields back to back, pieces, equal runs.
-- Assumes nothing.
use mathlib.Core.Path.{◌≡◌, refl, sym, ap, ap₂, ◌∙◌, subst}
use Prim.Native.Nat.{ℕ, zero, suc, ◌+◌, ◌-◌, ◌*◌, ◌/◌, ◌%◌, ◌^◌, ◌≤◌, ◌<◌}
use native.Mathlib.Nat.{suc-mul, not-suc-le-zero, mul_assoc, pow-succ'}
use native.Mathlib.Omega.{arith}
use mathlib.Core.Bool.{Bool, true, false, ◌&&◌}
use mathlib.Core.List.{List, [], ◌∷◌, ◌++◌, append_assoc}
use lib.ListN.{length, take, drop, get_or, length-append, length-take, length-drop, drop_of_length-le}
use lib.Seq.{take_all, take_at, drop_at, drop-append-add, get_or-drop, drop-drop, take-take, take-nil, take-add}
use lib.Dec.{T, eqb, eqb→eq, eqb_refl, leb}
use borrow.Author.Tests.{leb-true}
use Rattle.std.specs.Cmp.Lexicographic.{pointwise}
use Rattle.fields.specs.Lists.{All, total}
use Rattle.fields.specs.Bytes.{Bytes, AllBytes, part, num, bytes_of, same, join, pieces, start, Fit}

-- ---- numbers

pub num-bytes_of : (w n : ℕ) → n < 256 ^ w → num (bytes_of w n) ≡ n
unfolding num bytes_of
num-bytes_of zero n h = omega arith
num-bytes_of (suc w) n h = omega (arith, num-bytes_of w (n / 256) (omega arith))

pub length-bytes_of : (w n : ℕ) → length (bytes_of w n) ≡ w
unfolding bytes_of
length-bytes_of zero n = refl
length-bytes_of (suc w) n = ap suc (length-bytes_of w (n / 256))

pub bytes_of-num : (s : Bytes) → AllBytes s → bytes_of (length s) (num s) ≡ s
unfolding num bytes_of
bytes_of-num [] h = refl
bytes_of-num (b ∷ bs) h =
    let small : b < 256 = h 0 in
    let low : (b + 256 * num bs) % 256 ≡ b = omega arith in
    let high : (b + 256 * num bs) / 256 ≡ num bs = omega arith in
    rw (low, high, bytes_of-num bs (λ i. h (suc i)))

num-lt : (w : ℕ) (s : Bytes) → AllBytes s → num (take w s) < 256 ^ w
unfolding num
num-lt zero s h = omega arith
num-lt (suc w) [] h = omega (arith, num-lt w [] h)
num-lt (suc w) (b ∷ bs) h = omega (arith, h 0, num-lt w bs (λ i. h (suc i)))

pub drop_bytes : (at : ℕ) (s : Bytes) → AllBytes s → AllBytes (drop at s)
drop_bytes at s h i = rw get_or-drop (h (at + i))

pub take_bytes : (w : ℕ) (s : Bytes) → AllBytes s → AllBytes (take w s)
take_bytes zero s h i = omega arith
take_bytes (suc w) [] h i = omega arith
take_bytes (suc w) (b ∷ bs) h zero = h 0
take_bytes (suc w) (b ∷ bs) h (suc i) = take_bytes w bs (λ k. h (suc k)) i

pub part_bytes : (at w : ℕ) (s : Bytes) → AllBytes s → AllBytes (part at w s)
unfolding part
part_bytes at w s h = take_bytes w (drop at s) (drop_bytes at s h)

-- a number of w bytes read in a file is below 256 ^ w
pub num-part-lt : (at w : ℕ) (s : Bytes) → AllBytes s → num (part at w s) < 256 ^ w
unfolding part
num-part-lt at w s h = num-lt w (drop at s) (drop_bytes at s h)

-- a number byte by byte, as code reads it
pub num-part-suc : (at w : ℕ) (s : Bytes) → num (part at (suc w) s) ≡ get_or s at 0 + 256 * num (part (suc at) w s)
unfolding num part
num-part-suc zero w [] = rw (take-nil w)
num-part-suc (suc at) w [] = rw (take-nil w)
num-part-suc zero w (b ∷ bs) = refl
num-part-suc (suc at) w (b ∷ bs) = num-part-suc at w bs

pub num-part_zero : (at : ℕ) (s : Bytes) → num (part at 0 s) ≡ 0
unfolding num part
num-part_zero at s = refl

-- one byte is its own number
pub num-part_one : (at : ℕ) (s : Bytes) → num (part at 1 s) ≡ get_or s at 0
num-part_one at s = omega (arith, num-part-suc at 0 s, num-part_zero (suc at) s)

-- a number in two parts: w bytes, and the n behind them
pub num-part-add : (at w n : ℕ) (s : Bytes) → num (part at (w + n) s) ≡ num (part at w s) + 256 ^ w * num (part (at + w) n s)
num-part-add at zero n s =
    let e : at + 0 ≡ at = omega arith in
    let f : 0 + n ≡ n = omega arith in
    rw (e, f) (omega (arith, num-part_zero at s))
num-part-add at (suc w) n s =
    let e : at + suc w ≡ suc at + w = omega arith in
    let f : suc w + n ≡ suc (w + n) = omega arith in
    let high = num (part (suc at + w) n s) in
    let g : 256 ^ suc w * high ≡ 256 * (256 ^ w * high) = rw pow-succ' (mul_assoc 256 (256 ^ w) high) in
    rw (e, f, g) (omega (arith, num-part-suc at (w + n) s, num-part-suc at w s, num-part-add (suc at) w n s))

pub num_past : (at w : ℕ) (s : Bytes) → length s ≤ at → num (part at w s) ≡ 0
unfolding num part
num_past at w s h = rw (drop_of_length-le s {i = at} h, take-nil w)

-- ---- parts

-- what `fits_in` says of the bytes at a place
pub fits_there : (r : Bool) (l at w : ℕ) → r ≡ leb (at + w) l → r ≡ true → at + w ≤ l
fits_there r l at w e t = leb-true (at + w) l (sym e ∙ t)

pub length_part : (at w : ℕ) (s : Bytes) → at + w ≤ length s → length (part at w s) ≡ w
unfolding part
length_part at w s h = simp (length-take, length-drop) (omega arith)

pub length-part-le : (at w : ℕ) (s : Bytes) → length (part at w s) ≤ w
unfolding part
length-part-le at w s = simp (length-take, length-drop) (omega arith)

-- the part that a front piece is
pub part_front : (w : ℕ) (x y : Bytes) → length x ≡ w → part 0 w (x ++ y) ≡ x
unfolding part
part_front w x y h = take_at x y w h

-- a part that lies behind a front piece
pub part_behind : (n at w : ℕ) (x y : Bytes) → length x ≡ n → part (n + at) w (x ++ y) ≡ part at w y
unfolding part
part_behind n at w x y h = rw (← h, drop-append-add)

pub part_past : (at w : ℕ) (s : Bytes) → length s ≤ at → part at w s ≡ []
unfolding part
part_past at w s h = rw (drop_of_length-le s {i = at} h, take-nil w)

-- the bytes from a place on
pub from_place : (s : Bytes) (at : ℕ) → part at (length s) s ≡ drop at s
unfolding part
from_place s at = take_all (length s) (drop at s) (simp length-drop (omega arith))

-- a part of what stands behind a place
pub part-drop : (n at w : ℕ) (s : Bytes) → part at w (drop n s) ≡ part (n + at) w s
unfolding part
part-drop n at w s = rw drop-drop

take-drop-take : (i k n : ℕ) (l : Bytes) → i + k ≤ n → take k (drop i (take n l)) ≡ take k (drop i l)
take-drop-take zero k n l h = take-take k n l (omega arith)
take-drop-take (suc i) k zero l h = absurd (not-suc-le-zero {n = i + k} (omega arith))
take-drop-take (suc i) k (suc n) [] h = refl
take-drop-take (suc i) k (suc n) (x ∷ xs) h = take-drop-take i k n xs (omega arith)

-- a part of a prefix, and a part of a part
pub part-take : (at w n : ℕ) (s : Bytes) → at + w ≤ n → part at w (take n s) ≡ part at w s
unfolding part
part-take at w n s h = take-drop-take at w n s h

pub part-part : (at w i k : ℕ) (s : Bytes) → i + k ≤ w → part i k (part at w s) ≡ part (at + i) k s
part-part at w i k s h =
    let e : part i k (part at w s) ≡ part i k (drop at s) = unfold part in part-take i k w (drop at s) h in
    e ∙ part-drop at i k s

-- for functions that read numbers
pub ruleset reading = (num-part-lt, length-part-le, fits_there)

-- ---- equal runs

pub and-false : (b : Bool) → b && false ≡ false
and-false true = refl
and-false false = refl

pub and_parts : (a b : Bool) → T (a && b) → T a × T b
and_parts true b t = (tt, t)
and_parts false b t = absurd t

and_both : (a b : Bool) → T a → T b → T (a && b)
and_both true b t u = u
and_both false b t u = absurd t

pub same→eq : (x y : Bytes) → T (same x y) → x ≡ y
unfolding same
same→eq [] [] t = refl
same→eq [] (y ∷ ys) t = absurd t
same→eq (x ∷ xs) [] t = absurd t
same→eq (x ∷ xs) (y ∷ ys) t =
    ap₂ {C = Bytes} (λ (a : ℕ) (r : Bytes). a ∷ r) (eqb→eq x y (and_parts (eqb x y) (same xs ys) t).0)
    (same→eq xs ys (and_parts (eqb x y) (same xs ys) t).1)

pub same_refl : (x : Bytes) → T (same x x)
unfolding same
same_refl [] = tt
same_refl (x ∷ xs) = and_both (eqb x x) (same xs xs) (eqb_refl x) (same_refl xs)

pub same_self : (x : Bytes) → same x x ≡ true
same_self x = go (same x x) (same_refl x)
  where
    go : (b : Bool) → T b → b ≡ true
    go true t = refl
    go false t = absurd t

-- the same by the library's comparison of two slices
pub pointwise_same : (x y : Bytes) → pointwise eqb x y ≡ same x y
unfolding same
pointwise_same [] [] = refl
pointwise_same [] (y ∷ ys) = refl
pointwise_same (x ∷ xs) [] = refl
pointwise_same (x ∷ xs) (y ∷ ys) = ap (λ (r : Bool). eqb x y && r) (pointwise_same xs ys)

-- what comparing says of a part p, by its answer r
pub differs : (r : Bool) (x p y : Bytes) → r ≡ same x y → x ≡ p → r ≡ false → same p y ≡ false
differs r x p y e q n = ap (λ (z : Bytes). same z y) (sym q) ∙ sym e ∙ n

pub agrees : (r : Bool) (x p y : Bytes) → r ≡ same x y → x ≡ p → r ≡ true → p ≡ y
agrees r x p y e q t = same→eq p y (subst T (sym (ap (λ (z : Bytes). same z y) (sym q) ∙ sym e ∙ t)) tt)

-- ---- fields back to back

-- each field is read back at its place and width, whatever follows
pub field_back : (ws : List ℕ) (fs : List Bytes) (rest : Bytes) (i : ℕ) → Fit ws fs → i < length ws
    → part (start i ws) (get_or ws i 0) (join fs ++ rest) ≡ get_or fs i []
unfolding join
field_back [] fs rest i f h = absurd (not-suc-le-zero h)
field_back (w ∷ ws) [] rest i f h = absurd f
field_back (w ∷ ws) (x ∷ xs) rest zero f h = rw append_assoc (part_front w x (join xs ++ rest) f.0)
field_back (w ∷ ws) (x ∷ xs) rest (suc i) f h =
    rw append_assoc (part_behind w (start i ws) (get_or ws i 0) x (join xs ++ rest) f.0 ∙ field_back ws xs rest i f.1 (omega arith))

pub length-join : (ws : List ℕ) (fs : List Bytes) → Fit ws fs → length (join fs) ≡ total (λ n. n) ws
unfolding join total
length-join [] [] f = refl
length-join [] (x ∷ xs) f = absurd f
length-join (w ∷ ws) [] f = absurd f
length-join (w ∷ ws) (x ∷ xs) f = simp (length-append, f.0, length-join ws xs f.1)

pub join-append : (xs ys : List Bytes) → join (xs ++ ys) ≡ join xs ++ join ys
unfolding join
join-append [] ys = refl
join-append (x ∷ xs) ys = rw (join-append xs ys, append_assoc x (join xs) (join ys))

-- ---- pieces of one width

pub length-pieces : (n w : ℕ) (s : Bytes) → length (pieces n w s) ≡ n
unfolding pieces
length-pieces zero w s = refl
length-pieces (suc n) w s = ap suc (length-pieces n w (drop w s))

pub pieces_width : (n w : ℕ) (s : Bytes) → n * w ≤ length s → All (λ p. length p ≡ w) (pieces n w s)
unfolding pieces
pieces_width zero w s h = tt
pieces_width (suc n) w s h = (simp length-take (omega arith), pieces_width n w (drop w s) (simp length-drop (omega arith)))

-- pieces of bytes are bytes
pub pieces_bytes : (n w : ℕ) (s : Bytes) → AllBytes s → All AllBytes (pieces n w s)
unfolding pieces
pieces_bytes zero w s h = tt
pieces_bytes (suc n) w s h = (take_bytes w s h, pieces_bytes n w (drop w s) (drop_bytes w s h))

-- pieces are read back, whatever follows
pub pieces_back : (w : ℕ) (ps : List Bytes) (rest : Bytes) → All (λ p. length p ≡ w) ps → pieces (length ps) w (join ps ++ rest) ≡ ps
unfolding pieces join
pieces_back w [] rest h = refl
pieces_back w (p ∷ ps) rest h =
    rw (append_assoc, take_at p (join ps ++ rest) w h.0, drop_at p (join ps ++ rest) w h.0, pieces_back w ps rest h.1)

pub length-join_pieces : (w : ℕ) (ps : List Bytes) → All (λ p. length p ≡ w) ps → length (join ps) ≡ length ps * w
unfolding join
length-join_pieces w [] h = omega arith
length-join_pieces w (p ∷ ps) h = omega (arith, length-append p (join ps), h.0, length-join_pieces w ps h.1)

-- piece i, by its place
pub pieces_at : (n w i : ℕ) (s : Bytes) → i < n → get_or (pieces n w s) i [] ≡ part (i * w) w s
unfolding pieces
pieces_at zero w i s h = absurd (not-suc-le-zero h)
pieces_at (suc n) w zero s h = let e : 0 * w ≡ 0 = omega arith in rw e (unfold part in refl)
pieces_at (suc n) w (suc i) s h =
    let e : suc i * w ≡ w + i * w = omega arith in
    rw e (pieces_at n w i (drop w s) (omega arith) ∙ part-drop w (i * w) w s)

-- one piece more, as a loop goes on
pub pieces_step : (n w at : ℕ) (s : Bytes) → 0 < n → pieces n w (drop at s) ≡ part at w s ∷ pieces (n - 1) w (drop (at + w) s)
unfolding pieces part
pieces_step n w at s h =
    let e : n ≡ suc (n - 1) = omega arith in
    ap (λ (k : ℕ). pieces k w (drop at s)) e ∙ rw drop-drop

-- ---- pieces in two parts

pub mul-suc : (n w : ℕ) → suc n * w ≡ w + n * w
mul-suc n w = rw suc-mul (omega arith)

pub join-pieces : (n w : ℕ) (s : Bytes) → join (pieces n w s) ≡ take (n * w) s
unfolding join pieces
join-pieces zero w s = let e : 0 * w ≡ 0 = omega arith in rw e
join-pieces (suc n) w s = rw (join-pieces n w (drop w s), mul-suc n w, take-add w (n * w) s)

drop-take-add : (w m : ℕ) (s : Bytes) → drop w (take (w + m) s) ≡ take m (drop w s)
drop-take-add zero m s = let e : 0 + m ≡ m = omega arith in rw e
drop-take-add (suc w) m [] = rw (take-nil (suc w + m), take-nil m)
drop-take-add (suc w) m (x ∷ xs) = let e : suc w + m ≡ suc (w + m) = omega arith in rw e (drop-take-add w m xs)

-- pieces of a prefix that holds them
pieces-take : (n w : ℕ) (s : Bytes) → pieces n w (take (n * w) s) ≡ pieces n w s
unfolding pieces
pieces-take zero w s = refl
pieces-take (suc n) w s = rw (mul-suc n w, take-take w (w + n * w) s (omega arith), drop-take-add w (n * w) s, pieces-take n w (drop w s))

pub pieces-part : (n w at : ℕ) (s : Bytes) → pieces n w (part at (n * w) s) ≡ pieces n w (drop at s)
unfolding part
pieces-part n w at s = pieces-take n w (drop at s)

-- the first n pieces, and those behind them
pub pieces_split : (n m w : ℕ) (s : Bytes) → pieces (n + m) w s ≡ pieces n w s ++ pieces m w (drop (n * w) s)
unfolding pieces
pieces_split zero m w s = let e : 0 + m ≡ m = omega arith in let z : 0 * w ≡ 0 = omega arith in rw (e, z)
pieces_split (suc n) m w s =
    let e : suc n + m ≡ suc (n + m) = omega arith in
    rw (e, mul-suc n w, pieces_split n m w (drop w s), drop-drop (n * w) w s)
