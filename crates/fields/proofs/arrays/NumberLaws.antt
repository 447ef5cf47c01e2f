-- Laws of numbers back to back: how long they are, and each at its place; and what is known where some are still to
-- write.
-- Assumes nothing.
use mathlib.Core.Path.{◌≡◌, refl, sym, ap, ◌∙◌}
use mathlib.Core.Logic.{◌⊎◌, inl, inr}
use Prim.Native.Nat.{ℕ, zero, suc, ◌+◌, ◌-◌, ◌*◌, ◌^◌, ◌≤◌, ◌<◌, min}
use native.Mathlib.Nat.{not-suc-le-zero, eq-zero-or-pos, mul-le-mul_right, le_of_suc-le-suc}
use native.Mathlib.Omega.{arith}
use mathlib.Core.List.{List, [], ◌∷◌, map}
use lib.ListN.{length, get_or, drop, length-append, drop_of_length-le}
use lib.Seq.{sets, length-sets, drop-cons}
use Rattle.fields.specs.Bytes.{Bytes, part, num, join, bytes_of, numbers_bytes}
use Rattle.fields.proofs.ByteLaws.{num-bytes_of, length-bytes_of, part_front, part_behind, part-part}
use Rattle.fields.proofs.StoreLaws.{sets-append, sets_out}

pub length_numbers : (w : ℕ) (ns : List ℕ) → length (numbers_bytes w ns) ≡ length ns * w
unfolding numbers_bytes join
length_numbers w [] = omega arith
length_numbers w (n ∷ ns) = omega (arith, length-append (bytes_of w n) (join (map (bytes_of w) ns)), length-bytes_of w n, length_numbers w ns)

-- number i of them, at its place
numbers_at : (w : ℕ) (ns : List ℕ) (i : ℕ) → i < length ns → part (i * w) w (numbers_bytes w ns) ≡ bytes_of w (get_or ns i 0)
unfolding numbers_bytes join
numbers_at w [] i h = absurd (not-suc-le-zero h)
numbers_at w (n ∷ ns) zero h =
    let e : 0 * w ≡ 0 = omega arith in
    rw e (part_front w (bytes_of w n) (join (map (bytes_of w) ns)) (length-bytes_of w n))
numbers_at w (n ∷ ns) (suc i) h =
    let e : suc i * w ≡ w + i * w = omega arith in
    rw e (part_behind w (i * w) w (bytes_of w n) (join (map (bytes_of w) ns)) (length-bytes_of w n) ∙ numbers_at w ns i (omega arith))

-- the bytes of each, where bytes have them at a place
pub numbers_part : (s : Bytes) (at w i : ℕ) (ns : List ℕ) → part at (length ns * w) s ≡ numbers_bytes w ns → i < length ns
    → part (at + i * w) w s ≡ bytes_of w (get_or ns i 0)
numbers_part s at w i ns e h = sym (part-part at (length ns * w) (i * w) w s (fits w i (length ns) h)) ∙ ap (part (i * w) w) e ∙ numbers_at w ns i h
  where
    fits : (w i n : ℕ) → i < n → i * w + w ≤ n * w
    fits w i zero h = elim h [ ]
    fits w i (suc n) h = omega (arith, mul-le-mul_right w (le_of_suc-le-suc h))

-- and read back
pub numbers_back : (s : Bytes) (at w i : ℕ) (ns : List ℕ) → part at (length ns * w) s ≡ numbers_bytes w ns → i < length ns → get_or ns i 0 < 256 ^ w
    → num (part (at + i * w) w s) ≡ get_or ns i 0
numbers_back s at w i ns e h small = ap num (numbers_part s at w i ns e h) ∙ num-bytes_of w (get_or ns i 0) small

-- ---- writing them

-- the first, and the others behind it
pub stored_next : (d : Bytes) (at w n : ℕ) (ns : List ℕ) → sets d at (numbers_bytes w (n ∷ ns)) ≡ sets (sets d at (bytes_of w n)) (at + w) (numbers_bytes w ns)
unfolding numbers_bytes join
stored_next d at w n ns = sets-append d at (bytes_of w n) (numbers_bytes w ns) ∙ rw (length-bytes_of w n)

pub stored_none : (d : Bytes) (at w : ℕ) → sets d at (numbers_bytes w []) ≡ d
unfolding numbers_bytes join
stored_none d at w = refl

-- a place past the end is the end
sets_least_place : (d : Bytes) (at to : ℕ) (xs : Bytes) → to ≡ min at (length d) → sets d to xs ≡ sets d at xs
sets_least_place d at to xs e = go (eq-zero-or-pos (at - length d))
  where
    go : (at - length d ≡ 0) ⊎ (0 < at - length d) → sets d to xs ≡ sets d at xs
    go (inl h) = let same : to ≡ at = omega arith in ap (λ (k : ℕ). sets d k xs) same
    go (inr h) = sets_out d to xs (omega arith) ∙ sym (sets_out d at xs (omega arith))

-- those from number i on make of the output what all make of it
pub record Writing (w at : ℕ) (ns : List ℕ) (out₀ out : Bytes) (i to : ℕ) : Type 0 where
  pub inside : to ≤ length out
  pub same : length out ≡ length out₀
  pub whole : sets out to (numbers_bytes w (drop i ns)) ≡ sets out₀ at (numbers_bytes w ns)

pub writing_begins : (w at : ℕ) (ns : List ℕ) (out : Bytes) (to : ℕ) → to ≡ min at (length out) → Writing w at ns out out 0 to
writing_begins w at ns out to e =
    record { inside = omega arith; same = refl; whole = sets_least_place out at to (numbers_bytes w ns) e }

pub writing_next : (w at : ℕ) (ns : List ℕ) (out₀ out : Bytes) (i to : ℕ) → i < length ns → Writing w at ns out₀ out i to
    → (next : Bytes) (by : ℕ) → next ≡ sets out to (bytes_of w (get_or ns i 0)) → by ≡ min w (length next - to) → Writing w at ns out₀ next (i + 1) (to + by)
writing_next w at ns out₀ out i to less h next by e b =
    let same : length next ≡ length out = ap length e ∙ length-sets out to (bytes_of w (get_or ns i 0)) in
    let one : i + 1 ≡ suc i = omega arith in
    record {
      inside = omega (arith, h.inside);
      same = same ∙ h.same;
      whole =
          sets_least_place next (to + w) (to + by) (numbers_bytes w (drop (i + 1) ns)) (omega (arith, h.inside))
          ∙ rw (one, e) (sym (stored_next out to w (get_or ns i 0) (drop (suc i) ns)))
          ∙ ap (λ (l : List ℕ). sets out to (numbers_bytes w l)) (sym (drop-cons ns i 0 less))
          ∙ h.whole;
    }

pub writing_ends : (w at : ℕ) (ns : List ℕ) (out₀ out : Bytes) (i to : ℕ) → length ns ≤ i → Writing w at ns out₀ out i to → out ≡ sets out₀ at (numbers_bytes w ns)
writing_ends w at ns out₀ out i to h m =
    sym (ap (λ (l : List ℕ). sets out to (numbers_bytes w l)) (drop_of_length-le ns {i = i} h) ∙ stored_none out to w) ∙ m.whole
