-- Laws of a point's bytes: the shared fields, then GPS time and colour where the format has them.
-- Assumes nothing.
use mathlib.Core.Path.{◌≡◌, refl, sym, ap, ◌∙◌}
use Prim.Native.Nat.{ℕ, ◌+◌, ◌≤◌}
use native.Mathlib.Nat.{zero-add}
use native.Mathlib.Omega.{arith}
use mathlib.Core.List.{List, [], ◌∷◌, ◌++◌, append-nil, append_assoc}
use lib.ListN.{length, length-append}
use lib.Seq.{sets}
use Rattle.std.specs.Prelude.{Option, Some, None}
use Rattle.fields.specs.Lists.{total}
use Rattle.fields.specs.Bytes.{Bytes, Fit, join}
use Rattle.fields.proofs.ByteLaws.{length-join, length-bytes_of, join-append}
use Rattle.fields.proofs.StoreLaws.{sets-append, sets_swap}
use Rattle.points.specs.Formats.{format_size, time_place, colour_place}
use Rattle.points.proofs.formats.FormatLaws.{Follows, width_if, layered}
use Rattle.points.specs.declared.Point.{Point}
use Rattle.points.specs.Encoding.{shared_fields, if_placed, stored_at, with_others, time_fields, colours, colour_fields, point_fields, point_bytes}

-- ---- the widths of the fields

abbrev pub shared_widths : List ℕ
shared_widths = 4 ∷ 4 ∷ 4 ∷ 2 ∷ 1 ∷ 1 ∷ 1 ∷ 1 ∷ 2 ∷ []

pub shared_fit : (f : ℕ) (q : Point) → Fit shared_widths (shared_fields f q)
unfolding shared_fields
shared_fit f q =
    (length-bytes_of 4 _, (length-bytes_of 4 _, (length-bytes_of 4 _, (length-bytes_of 2 _, (length-bytes_of 1 _, (length-bytes_of 1 _, (length-bytes_of 1 _, (length-bytes_of 1 _, (length-bytes_of 2 _, tt)))))))))

pub length_shared : (f : ℕ) (q : Point) → length (join (shared_fields f q)) ≡ 20
unfolding total
length_shared f q = length-join shared_widths (shared_fields f q) (shared_fit f q)

pub length_placed : (place : Option ℕ) (ws : List ℕ) (fs : List Bytes) → Fit ws fs → length (join (if_placed place fs)) ≡ width_if place (total (λ n. n) ws)
unfolding if_placed join
length_placed None ws fs h = refl
length_placed (Some at) ws fs h = length-join ws fs h

pub length_time : (place : Option ℕ) (q : Point) → length (join (time_fields place q)) ≡ width_if place 8
unfolding time_fields total
length_time place q = length_placed place (8 ∷ []) _ (length-bytes_of 8 q.gps_time, tt)

pub length_colour : (place : Option ℕ) (q : Point) → length (join (colour_fields place q)) ≡ width_if place 6
unfolding colour_fields colours total
length_colour place q =
    length_placed place (2 ∷ 2 ∷ 2 ∷ []) _ (length-bytes_of 2 q.red, (length-bytes_of 2 q.green, (length-bytes_of 2 q.blue, tt)))

-- the bytes of a point, group by group
pub bytes_groups : (f : ℕ) (q : Point) → point_bytes f q ≡ join (shared_fields f q) ++ (join (time_fields (time_place f) q) ++ join (colour_fields (colour_place f) q))
unfolding point_bytes point_fields
bytes_groups f q =
    join-append (shared_fields f q) (time_fields (time_place f) q ++ colour_fields (colour_place f) q)
    ∙ ap (λ (b : Bytes). join (shared_fields f q) ++ b) (join-append (time_fields (time_place f) q) (colour_fields (colour_place f) q))

pub length_bytes : (f : ℕ) (q : Point) → f ≤ 3 → length (point_bytes f q) ≡ format_size f
length_bytes f q h =
    let t = time_place f in
    let k = colour_place f in
    ap length (bytes_groups f q)
    ∙ simp (length-append, length_shared f q, length_time t q, length_colour k q) (omega (arith, (layered f).size h))

-- ---- fields at a place, written behind what is written

pub stored_behind : (place : Option ℕ) (fs : List Bytes) (room b : Bytes) → Follows place (length b)
    → stored_at place (join (if_placed place fs)) (sets room 0 b) ≡ sets room 0 (b ++ join (if_placed place fs))
unfolding stored_at if_placed join
stored_behind None fs room b h = rw (append-nil b)
stored_behind (Some at) fs room b h = rw (h, ← zero-add (length b)) (sym (sets-append room 0 b (join fs)))

-- fields at a place, written before what stands in front of it
stored_before : (place : Option ℕ) (n : ℕ) (b s room : Bytes) → Follows place n → length s ≤ n
    → sets (stored_at place b room) 0 s ≡ stored_at place b (sets room 0 s)
unfolding stored_at
stored_before None n b s room f h = refl
stored_before (Some at) n b s room f h = sets_swap room 0 at s b (omega arith)

-- the room after GPS time and colour, and after the shared fields
pub all_stored : (f : ℕ) (q : Point) (room others whole : Bytes) → others ≡ with_others f q room → whole ≡ sets others 0 (join (shared_fields f q))
    → whole ≡ sets room 0 (point_bytes f q)
unfolding time_fields colour_fields
all_stored f q room others whole first then =
    let t = time_place f in
    let k = colour_place f in
    let s = join (shared_fields f q) in
    let b = join (time_fields t q) in
    let c = join (colour_fields k q) in
    let front : length s ≤ 20 = omega (arith, length_shared f q) in
    let swapped : sets others 0 s ≡ stored_at k c (stored_at t b (sets room 0 s)) =
    ap (λ (r : Bytes). sets r 0 s) first
    ∙ stored_before k (20 + width_if t 8) c s (stored_at t b room) (layered f).colour (omega arith)
    ∙ ap (stored_at k c) (stored_before t 20 b s room (layered f).time front) in
    let time : Follows t (length s) = rw (length_shared f q) (layered f).time in
    let wide : length (s ++ b) ≡ 20 + width_if t 8 = length-append s b ∙ rw (length_shared f q, length_time t q) in
    let colour : Follows k (length (s ++ b)) = rw wide (layered f).colour in
    then
    ∙ swapped
    ∙ rw (stored_behind t _ room s time)
    (stored_behind k _ room (s ++ b) colour ∙ ap (sets room 0) (append_assoc s b c ∙ sym (bytes_groups f q)))
