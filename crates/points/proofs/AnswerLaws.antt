-- Laws of what decoding gives: each answer under its test.
-- Assumes nothing.
use mathlib.Core.Path.{◌≡◌, refl, sym, ap, ◌∙◌, subst}
use Prim.Native.Nat.{ℕ, ◌+◌, ◌≤◌}
use native.Mathlib.Omega.{arith}
use mathlib.Core.Bool.{Bool, true, false, ◌&&◌, ◌||◌, not, true≢false}
use mathlib.Core.List.{[]}
use lib.ListN.{length}
use lib.IntN.{ℤ}
use lib.Dec.{T, eqb, eqb→eq, leb, ltb}
use borrow.Author.Tests.{eq-eqb, le-leb, leb-true, leb-false, lt-ltb, le-ltb}
use Rattle.std.specs.Prelude.{Some}
use Rattle.fields.specs.Bytes.{Bytes}
use Rattle.fields.specs.Checks.{fails, first_failing}
use Rattle.fields.proofs.CheckLaws.{clear, gives, goes_on, unclear}
use Rattle.points.specs.declared.layouts.Layout.{Layout}
use Rattle.points.specs.Formats.{format_size, time_place, colour_place, layout_of}
use Rattle.points.specs.declared.Point.{Point}
use Rattle.points.specs.Points.{Fields, Refused, shape, number_in, decode_checks, fields_if, decoded, point_of}
use Rattle.points.specs.Encoding.{blank}
use Rattle.points.proofs.formats.FormatLaws.{shared_first, time_held, colour_held}

-- ---- the test of the shape, as the code makes it

above_not : (a b : ℕ) (t : Bool) → leb a b ≡ t → ltb b a ≡ not t
above_not a b true e = le-ltb b a (leb-true a b e)
above_not a b false e = lt-ltb b a (leb-false a b e)

all_three : (a b c : Bool) → (a && b) && c ≡ not (not a || (not b || not c))
all_three true true true = refl
all_three true true false = refl
all_three true false c = refl
all_three false b c = refl

three_test : (f len n : ℕ) → (eqb n len && leb (format_size f) len) && leb f 3 ≡ not (fails (shape f len n))
unfolding fails shape
three_test f len n =
    rw (above_not (format_size f) len (leb (format_size f) len) refl, above_not f 3 (leb f 3) refl)
    (all_three (eqb n len) (leb (format_size f) len) (leb f 3))

-- the code tests whether the shape is not as it has to be
pub not_shaped : (r b : Bool) → r ≡ not b → not r ≡ true → T b
not_shaped r true e h = tt
not_shaped r false e h = absurd (true≢false (sym h ∙ ap not e))

pub shaped : (r b : Bool) → r ≡ not b → not r ≡ false → T (not b)
shaped r true e h = absurd (true≢false (sym (ap not e) ∙ h))
shaped r false e h = tt

-- where the shape is as it has to be, the bytes are as many as the format's or more
shape_holds : (f len n : ℕ) → T (not (fails (shape f len n))) → (f ≤ 3) × (format_size f ≤ n)
unfolding shape
shape_holds f len n h =
    let k : T (eqb n len) × ((format_size f ≤ len) × (f ≤ 3)) = clear (shape f len n) h in
    (k.1.1, omega (arith, eqb→eq n len k.0))

implied : (a b : Bool) → (T a → b ≡ true) → a && b ≡ a
implied true b h = h tt
implied false b h = refl

pub shape_test : (f len n size : ℕ) → size ≡ format_size f → ((eqb n len && leb size len) && leb f 3) && leb 20 n ≡ not (fails (shape f len n))
shape_test f len n size e =
    rw (e, three_test f len n)
    (implied (not (fails (shape f len n))) (leb 20 n) (λ t. let k = shape_holds f len n t in le-leb 20 n (omega (arith, shared_first f k.0))))

-- what follows where the code has found the shape as it has to be
pub shape_found : (f len n : ℕ) (r : Bool) → r ≡ not (fails (shape f len n)) → not r ≡ false → (f ≤ 3) × (format_size f ≤ n)
shape_found f len n r e h = shape_holds f len n (shaped r (fails (shape f len n)) e h)

-- the fields that only some formats have, in n bytes that are as many as the format's or more
module _ (f n : ℕ) (h : (f ≤ 3) × (format_size f ≤ n)) (l : Layout) (is : l ≡ layout_of f) (at : ℕ) where
  pub time_there : l.time ≡ Some at → at + 8 ≤ n
  unfolding layout_of
  time_there k = omega (arith, time_held f at h.0 (sym (ap (λ (x : Layout). x.time) is) ∙ k))

  pub colour_there : l.colour ≡ Some at → at + 6 ≤ n
  unfolding layout_of
  colour_there k = omega (arith, colour_held f at h.0 (sym (ap (λ (x : Layout). x.colour) is) ∙ k))

-- ---- decoding

-- the fields that all formats share, with those that only some have; X, Y, Z and the scan angle as they are passed on
pub with_others : (f : ℕ) (p : Bytes) (q : Point) (x y z angle : ℤ) (time red green blue : ℕ) → q ≡ blank 0 (point_of f p)
    → x ≡ q.x → y ≡ q.y → z ≡ q.z → angle ≡ q.scan_angle
    → time ≡ number_in 8 (time_place f) 0 p → red ≡ number_in 2 (colour_place f) 0 p → green ≡ number_in 2 (colour_place f) 2 p → blue ≡ number_in 2 (colour_place f) 4 p
    → ◌≡◌ {A = Point}
    (record {
      x = x;
      y = y;
      z = z;
      intensity = q.intensity;
      return_number = q.return_number;
      returns = q.returns;
      scan_direction = q.scan_direction;
      edge = q.edge;
      classification = q.classification;
      scan_angle = angle;
      user_data = q.user_data;
      source_id = q.source_id;
      gps_time = time;
      red = red;
      green = green;
      blue = blue;
      synthetic = q.synthetic;
      key_point = q.key_point;
      withheld = q.withheld;
    })
    (point_of f p)
unfolding point_of blank
with_others f p q x y z angle time red green blue e a b c d t r g k = rw (a, b, c, d, e, t, r, g, k)

pub refused : (f len : ℕ) (p : Bytes) (r : Bool) → r ≡ not (fails (shape f len (length p))) → not r ≡ true → decoded f len p ≡ Refused 12
unfolding decoded decode_checks fields_if
refused f len p r e h = rw (gives 12 (shape f len (length p)) [] (not_shaped r (fails (shape f len (length p))) e h))

pub accepted : (f len : ℕ) (p : Bytes) → T (not (fails (shape f len (length p)))) → decoded f len p ≡ Fields (point_of f p)
unfolding decoded decode_checks fields_if first_failing
accepted f len p h = rw (goes_on 12 (shape f len (length p)) [] h)

pub accepted_by : (f len : ℕ) (p : Bytes) (r : Bool) → r ≡ not (fails (shape f len (length p))) → not r ≡ false → decoded f len p ≡ Fields (point_of f p)
accepted_by f len p r e h = accepted f len p (shaped r (fails (shape f len (length p))) e h)

-- a record of the right length is decoded
pub decodes : (f len : ℕ) (p : Bytes) → length p ≡ len → format_size f ≤ len → f ≤ 3 → decoded f len p ≡ Fields (point_of f p)
unfolding shape
decodes f len p e h k = accepted f len p (unclear (shape f len (length p)) (subst T (sym (eq-eqb (length p) len e)) tt, (h, k)))
