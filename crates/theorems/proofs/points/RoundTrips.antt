-- Bytes come back from their fields, fields from their bytes, and extra bytes stay, in every format.
-- Assumes nothing.
use mathlib.Core.Path.{◌≡◌, refl, ap, ◌∙◌}
use Prim.Native.Nat.{ℕ, ◌≤◌}
use native.Mathlib.Nat.{zero-add}
use native.Mathlib.Omega.{arith}
use mathlib.Core.List.{◌++◌, append_assoc}
use lib.ListN.{length, take, drop, take-append-drop}
use lib.Seq.{sets, sets-eq, length-sets, length-take-le, drop_at}
use lib.Dec.{eqb→eq}
use Rattle.fields.specs.Bytes.{Bytes, AllBytes, join}
use Rattle.fields.specs.Checks.{first_failing, Clear, Verdict, Passes, Fails}
use Rattle.fields.proofs.CheckLaws.{none_fails, unclear}
use Rattle.points.specs.Formats.{format_size, time_place, colour_place}
use Rattle.points.specs.declared.Point.{Point}
use Rattle.points.specs.Points.{Fields, point_of, shape, decode_checks, fields_if, decoded}
use Rattle.points.specs.Raw.{bits, class_in, class_of, return_of}
use Rattle.points.specs.Encoding.{shared_fields, time_fields, colour_fields, point_bytes, large, encode_checks, stored_if, encoded, blank, InRange}
use Rattle.theorems.specs.RoundTrips.{RoundTrips}
use Rattle.points.proofs.AnswerLaws.{accepted}
use Rattle.points.proofs.encoding.AnswerLaws.{stored}
use Rattle.points.proofs.encoding.LayoutLaws.{bytes_groups, length_bytes}
use Rattle.theorems.proofs.points.BytesBack.{bytes_back}
use Rattle.theorems.proofs.points.FieldsBack.{fields_back}

-- what is known of n bytes where 12 is not given
record Shaped (f len n : ℕ) : Type 0 where
  same : n ≡ len
  room : format_size f ≤ len
  format : f ≤ 3

shaped : (f len n : ℕ) → Clear (shape f len n) → Shaped f len n
unfolding shape
shaped f len n h = record { same = eqb→eq n len h.0; room = h.1.0; format = h.1.1 }

-- ---- bytes from fields

fields_given : (v : Verdict) (p q : Point) → fields_if v p ≡ Fields q → (v ≡ Passes) × (p ≡ q)
unfolding fields_if
fields_given Passes p q e = (refl, cc)
fields_given (Fails n) p q e = let z : ◌≡◌ {A = ℕ} 0 1 = cc in absurd (omega arith)

was_decoded : (f len : ℕ) (s : Bytes) (q : Point) → decoded f len s ≡ Fields q
    → Clear (shape f len (length s)) × (point_of f s ≡ q)
unfolding decoded decode_checks
was_decoded f len s q e =
    let g : (first_failing (decode_checks f len s) ≡ Passes) × (point_of f s ≡ q) = fields_given (first_failing (decode_checks f len s)) (point_of f s) q e in
    ((none_fails (decode_checks f len s) g.0).0, g.1)

-- three bits are at most 7, and five at most 31
not_large : (f : ℕ) (s : Bytes) → Clear (large f (point_of f s))
unfolding point_of bits large return_of class_of class_in
not_large f s = (omega arith, (omega arith, omega arith))

front_stored : (b room : Bytes) (n : ℕ) → length b ≡ n → n ≤ length room → sets room 0 b ≡ b ++ drop n room
front_stored b room n e h = sets-eq b room 0 (omega arith) ∙ rw (zero-add (length b), e)

own_bytes : (f : ℕ) (s room : Bytes) → AllBytes s → f ≤ 3 → format_size f ≤ length s → length room ≡ length s
    → drop (format_size f) room ≡ drop (format_size f) s → sets room 0 (point_bytes f (point_of f s)) ≡ s
own_bytes f s room all le h same extra =
    let n = format_size f in
    rw (bytes_back f s all le h)
    (front_stored (take n s) room n (length-take-le n s h) (omega arith) ∙ rw extra (take-append-drop n s))

encode_after_decode : (f len : ℕ) (bytes room : Bytes) (q : Point) → AllBytes bytes → decoded f len bytes ≡ Fields q
    → length room ≡ length bytes → drop (format_size f) room ≡ drop (format_size f) bytes
    → encoded f len q room ≡ (Passes, bytes)
encode_after_decode f len bytes room q all e same extra =
    let g : Clear (shape f len (length bytes)) × (point_of f bytes ≡ q) = was_decoded f len bytes q e in
    let k : Shaped f len (length bytes) = shaped f len (length bytes) g.0 in
    let c : Clear (shape f len (length room)) = rw same g.0 in
    rw (← g.1)
    (stored f len (point_of f bytes) room (unclear (shape f len (length room)) c) (unclear (large f (point_of f bytes)) (not_large f bytes))
    ∙ ap (λ (b : Bytes). (Passes, b)) (own_bytes f bytes room all k.format (omega arith) same extra))

-- ---- fields from bytes

stored_passes : (v : Verdict) (b room : Bytes) → (stored_if v b room).0 ≡ Passes → v ≡ Passes
unfolding stored_if
stored_passes Passes b room e = refl
stored_passes (Fails n) b room e = e

was_encoded : (f len : ℕ) (q : Point) (room : Bytes) → (encoded f len q room).0 ≡ Passes
    → Clear (shape f len (length room)) × Clear (large f q)
unfolding encoded encode_checks
was_encoded f len q room e =
    let g = none_fails (encode_checks f len q room) (stored_passes (first_failing (encode_checks f len q room)) (point_bytes f q) room e) in
    (g.0, g.1.0)

own_fields : (f : ℕ) (q : Point) (room : Bytes) → InRange q → Clear (large f q) → f ≤ 3 → format_size f ≤ length room
    → point_of f (sets room 0 (point_bytes f q)) ≡ blank f q
unfolding large
own_fields f q room r small le h =
    let shared = join (shared_fields f q) in
    let time = join (time_fields (time_place f) q) in
    let colour = join (colour_fields (colour_place f) q) in
    let rest = drop (format_size f) room in
    let whole : sets room 0 (point_bytes f q) ≡ shared ++ (time ++ (colour ++ rest)) =
    front_stored (point_bytes f q) room (format_size f) (length_bytes f q le) h
    ∙ rw (bytes_groups f q, append_assoc shared (time ++ colour) rest, append_assoc time colour rest) in
    rw whole (fields_back f q rest r small.0 small.1.0 small.1.1)

decode_after_encode : (f len : ℕ) (room : Bytes) (q : Point) → InRange q → (encoded f len q room).0 ≡ Passes
    → decoded f len (encoded f len q room).1 ≡ Fields (blank f q)
decode_after_encode f len room q r e =
    let g : Clear (shape f len (length room)) × Clear (large f q) = was_encoded f len q room e in
    let k : Shaped f len (length room) = shaped f len (length room) g.0 in
    let after = sets room 0 (point_bytes f q) in
    let c : Clear (shape f len (length after)) = rw (length-sets room 0 (point_bytes f q)) g.0 in
    rw (stored f len q room (unclear (shape f len (length room)) g.0) (unclear (large f q) g.1))
    (accepted f len after (unclear (shape f len (length after)) c) ∙ ap Fields (own_fields f q room r g.1 k.format (omega arith)))

-- ---- extra bytes

extra_stay : (f len : ℕ) (q : Point) (room : Bytes) → (encoded f len q room).0 ≡ Passes
    → drop (format_size f) (encoded f len q room).1 ≡ drop (format_size f) room
extra_stay f len q room e =
    let g : Clear (shape f len (length room)) × Clear (large f q) = was_encoded f len q room e in
    let k : Shaped f len (length room) = shaped f len (length room) g.0 in
    let n = format_size f in
    let size : length (point_bytes f q) ≡ n = length_bytes f q k.format in
    rw (
      stored f len q room (unclear (shape f len (length room)) g.0) (unclear (large f q) g.1),
      front_stored (point_bytes f q) room n size (omega arith),
    )
    (drop_at (point_bytes f q) (drop n room) n size)

pub round_trips : RoundTrips
round_trips =
    record {
      encode_after_decode = encode_after_decode;
      decode_after_encode = decode_after_encode;
      extra_stay = extra_stay;
    }
