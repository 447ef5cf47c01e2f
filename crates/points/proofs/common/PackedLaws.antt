-- Laws of several numbers in one, each in bytes of its own.
-- Assumes nothing.
use mathlib.Core.Path.{◌≡◌, refl, sym, ap, ◌∙◌}
use Prim.Native.Nat.{ℕ, zero, suc, ◌+◌, ◌*◌, ◌/◌, ◌%◌, ◌^◌, ◌<◌}
use native.Mathlib.Nat.{mul-add, mul_assoc, mul_comm, pow-suc}
use native.Mathlib.Omega.{arith}
use mathlib.Core.List.{[], ◌∷◌, ◌++◌, append-nil}
use Rattle.fields.specs.Bytes.{Bytes, bytes_of, join}

-- two numbers in one
bytes_two : (v w n a b : ℕ) → n ≡ w + v → a < 256 ^ v → bytes_of n (a + 256 ^ v * b) ≡ bytes_of v a ++ bytes_of w b
unfolding bytes_of
bytes_two zero w n a b e h =
    let m : n ≡ w = omega arith in
    let s : a + 256 ^ zero * b ≡ b = omega arith in
    ap (bytes_of n) s ∙ ap (λ (k : ℕ). bytes_of k b) m
bytes_two (suc v) w zero a b e h = absurd (omega arith)
bytes_two (suc v) w (suc n) a b e h =
    let p : 256 ^ suc v * b ≡ 256 * (256 ^ v * b) = ap (λ (k : ℕ). k * b) (pow-suc 256 v ∙ mul_comm (256 ^ v) 256) ∙ mul_assoc 256 (256 ^ v) b in
    let low : (a + 256 ^ suc v * b) % 256 ≡ a % 256 = omega (arith, p) in
    let rest : (a + 256 ^ suc v * b) / 256 ≡ a / 256 + 256 ^ v * b = omega (arith, p) in
    rw (low, rest, bytes_two v w n (a / 256) b (omega arith) (omega arith))

-- three numbers in one, of u, v and w bytes
pub bytes_three : (u v w a b c : ℕ) → a < 256 ^ u → b < 256 ^ v
    → bytes_of (w + v + u) (a + 256 ^ u * b + 256 ^ u * 256 ^ v * c) ≡ join (bytes_of u a ∷ bytes_of v b ∷ bytes_of w c ∷ [])
unfolding join
bytes_three u v w a b c h k =
    let p : 256 ^ u * (b + 256 ^ v * c) ≡ 256 ^ u * b + 256 ^ u * (256 ^ v * c) = mul-add (256 ^ u) b (256 ^ v * c) in
    let q : 256 ^ u * 256 ^ v * c ≡ 256 ^ u * (256 ^ v * c) = mul_assoc (256 ^ u) (256 ^ v) c in
    let e : a + 256 ^ u * b + 256 ^ u * 256 ^ v * c ≡ a + 256 ^ u * (b + 256 ^ v * c) = omega (arith, p, q) in
    ap (bytes_of (w + v + u)) e
    ∙ bytes_two u (w + v) (w + v + u) a (b + 256 ^ v * c) refl h
    ∙ ap (λ (r : Bytes). bytes_of u a ++ r) (bytes_two v w (w + v) b c refl k ∙ ap (λ (r : Bytes). bytes_of v b ++ r) (sym (append-nil (bytes_of w c))))
