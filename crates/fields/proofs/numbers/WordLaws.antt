-- Laws of numbers of up to 8 bytes, as words of 64 bits.
-- Assumes nothing.
use Rattle.std.proofs.Common.{◌≡◌, ℕ, zero, suc, ◌+◌, ◌*◌, ◌^◌, ◌<◌, ◌≤◌, [], ◌∷◌, ◌++◌, length, take, drop, drop-cons, drop_of_length-le, add-one, min, ◌/◌, ◌%◌, ◌-◌, get_or, refl, ap, sym, ◌∙◌, arith}
use borrow.Rule.Slice.PartMut.{put_mid}
use Rattle.std.proofs.lemmas.List.{drop-replicate, length-drop, length-append, length-replicate}
use Rattle.std.proofs.Math.Nat.{div-div-eq-div-mul, eq-zero-or-pos}
use mathlib.Core.Logic.{◌⊎◌, inl, inr}
use mathlib.Core.List.{append-nil}
use Rattle.std.proofs.lemmas.Grind.{common_steps}
use Rattle.std.proofs.Math.Seq.{take_all}
use Rattle.std.specs.Int.{w64, from_le_bytes, to_le_bytes}
use Rattle.fields.specs.Bytes.{Bytes, part, num, bytes_of, zeros}
use Rattle.fields.proofs.StoreLaws.{put_mid_sets, sets_out, sets_room}
use Rattle.std.proofs.lemmas.List.Edits.{sets}
use Rattle.fields.proofs.ByteLaws.{num-part-lt, num-part-suc, num-part_zero, length-bytes_of}

-- zeros behind the bytes of a number
pub num_padded : (s : Bytes) (n : ℕ) → num (s ++ zeros n) ≡ num s
unfolding num
num_padded [] zero = refl
num_padded [] (suc n) = omega (arith, num_padded [] n)
num_padded (b ∷ bs) n = omega (arith, num_padded bs n)

whole : (s : Bytes) → length s ≤ 8 → part 0 8 s ≡ s
unfolding part
whole s h = take_all 8 s h

pub num_word : (s : Bytes) → length s ≤ 8 → from_le_bytes w64 s ≡ num s
num_word s h =
    let all = ap num (whole s h) in
    omega (
      arith,
      all,
      num-part-suc 0 7 s,
      num-part-suc 1 6 s,
      num-part-suc 2 5 s,
      num-part-suc 3 4 s,
      num-part-suc 4 3 s,
      num-part-suc 5 2 s,
      num-part-suc 6 1 s,
      num-part-suc 7 0 s,
      num-part_zero 8 s,
    )

over_zeros : (s : Bytes) → put_mid 0 (length s) (zeros 8) s ≡ s ++ zeros (8 - length s)
over_zeros s = ap (λ (r : Bytes). s ++ r) (drop-replicate (length s) 8 0)

-- the bytes of a number, written over the front of a word of zeros
pub read_word : (s : Bytes) → length s ≤ 8 → num s ≡ from_le_bytes w64 (put_mid 0 (length s) (zeros 8) s)
read_word s h =
    let short : length (s ++ zeros (8 - length s)) ≤ 8 = simp (length-append, length-replicate) (omega arith) in
    sym (ap (from_le_bytes w64) (over_zeros s) ∙ num_word (s ++ zeros (8 - length s)) short ∙ num_padded s (8 - length s))

-- ---- the bytes of a word

bytes_of_zero : (k : ℕ) → bytes_of k 0 ≡ zeros k
unfolding bytes_of
bytes_of_zero zero = refl
bytes_of_zero (suc k) = ap (λ (r : Bytes). 0 ∷ r) (bytes_of_zero k)

-- behind the bytes that a number has come zeros
pub bytes_of_more : (w k n : ℕ) → n < 256 ^ w → bytes_of (w + k) n ≡ bytes_of w n ++ zeros k
unfolding bytes_of
bytes_of_more zero k n h =
    let e : 0 + k ≡ k = omega arith in
    let z : n ≡ 0 = omega arith in
    rw (e, z) (bytes_of_zero k)
bytes_of_more (suc w) k n h =
    let e : suc w + k ≡ suc (w + k) = omega arith in
    rw e (ap (λ (r : Bytes). n % 256 ∷ r) (bytes_of_more w k (n / 256) (omega arith)))

pub bytes_of_front : (m w n : ℕ) → m ≤ w → take m (bytes_of w n) ≡ bytes_of m n
unfolding bytes_of
bytes_of_front zero w n h = refl
bytes_of_front (suc m) zero n h = absurd (omega arith)
bytes_of_front (suc m) (suc w) n h = ap (λ (r : Bytes). n % 256 ∷ r) (bytes_of_front m w (n / 256) (omega arith))

bytes_of_word : (n : ℕ) → to_le_bytes w64 n ≡ bytes_of 8 n
unfolding bytes_of
bytes_of_word n = simp div-div-eq-div-mul

with_zeros : (w m n : ℕ) → m ≡ min w 8 → n < 2 ^ 64 → bytes_of m n ++ zeros (w - m) ≡ bytes_of w n
with_zeros w m n e h = go (eq-zero-or-pos (w - 8))
  where
    go : (w - 8 ≡ 0) ⊎ (0 < w - 8) → bytes_of m n ++ zeros (w - m) ≡ bytes_of w n
    go (inl k) =
        let f : m ≡ w = omega arith in
        let z : w - w ≡ 0 = omega arith in
        rw (f, z) (append-nil (bytes_of w n))
    go (inr k) =
        let f : m ≡ 8 = omega arith in
        let more : 8 + (w - 8) ≡ w = omega arith in
        rw f (sym (bytes_of_more 8 (w - 8) n h) ∙ ap (λ (j : ℕ). bytes_of j n) more)

-- the bytes of a number by those of its word
pub write_word : (w n : ℕ) → n < 2 ^ 64 → bytes_of w n ≡ take (min w 8) (to_le_bytes w64 n) ++ zeros (w - min w 8)
write_word w n h =
    let front : take (min w 8) (to_le_bytes w64 n) ≡ bytes_of (min w 8) n = ap (take (min w 8)) (bytes_of_word n) ∙ bytes_of_front (min w 8) 8 n (omega arith) in
    sym (ap (λ (r : Bytes). r ++ zeros (w - min w 8)) front ∙ with_zeros w (min w 8) n refl h)

-- what is written behind a front, to the end
pub behind_front : (xs ys zs : Bytes) (a k : ℕ) → length xs ≡ a → k ≡ length (xs ++ ys) - a → put_mid a k (xs ++ ys) zs ≡ xs ++ zs
behind_front xs ys zs a k = grind (arith, common_steps)

-- a number written over a front of bytes, and zeros behind it, to the end
pub written : (d x z : Bytes) (low n k : ℕ) → low ≡ min (length d) 8 → n < 2 ^ 64 → x ≡ take low (to_le_bytes w64 n) → k ≡ length (x ++ drop low d) - low
    → z ≡ zeros (length (take k (drop low (x ++ drop low d)))) → put_mid low k (x ++ drop low d) z ≡ bytes_of (length d) n
written d x z low n k l h e f g =
    let lx : length x ≡ low = grind (arith, common_steps) in
    let count : length (take k (drop low (x ++ drop low d))) ≡ length d - low = grind (arith, common_steps) in
    behind_front x (drop low d) z low k lx f ∙ rw (write_word (length d) n h, e, g, count, l) refl

-- as many of a number's bytes as there is room for
pub short_number : (s : Bytes) (at w n : ℕ) → length s < at + w → sets s at (bytes_of (length s - at) n) ≡ sets s at (bytes_of w n)
short_number s at w n h =
    rw (← bytes_of_front (length s - at) w n (omega arith)) (sets_room s at (length s - at) (bytes_of w n) (omega arith))

pub ruleset numbering = (put_mid_sets, sets_out, length-bytes_of, short_number)

-- ---- byte by byte

-- one byte more at the front, as a loop from the highest byte down finds it
pub num_next : (s : Bytes) (k m : ℕ) → k < length s → m ≡ k + 1 → num (drop k s) ≡ 256 * num (drop m s) + get_or s k 0
num_next s k m h e = rw (e, add-one, drop-cons s k 0 h) (unfold num in omega arith)

pub num_none : (s : Bytes) (k : ℕ) → length s ≤ k → num (drop k s) ≡ 0
num_none s k h = rw (drop_of_length-le s {i = k} h) (unfold num in refl)

whole_behind : (s : Bytes) (k : ℕ) → length s ≤ 8 → 0 < k → part k 7 s ≡ drop k s
unfolding part
whole_behind s k l p = take_all 7 (drop k s) (simp length-drop (omega arith))

pub num_bound : (s : Bytes) (k : ℕ) → ((i : ℕ) → get_or s i 0 < 256) → length s ≤ 8 → 0 < k → num (drop k s) < 2 ^ 56
num_bound s k h l p = rw (← whole_behind s k l p) (num-part-lt k 7 s h)

pub ruleset by_bytes = (num_next, num_none, num_bound)
