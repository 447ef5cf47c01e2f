-- Laws of what the lines of a list name: each by itself, and all that the cutting list of a file names.
-- Assumes nothing.
use mathlib.Core.Path.{◌≡◌, refl, sym, ap, ◌∙◌}
use Prim.Native.Nat.{ℕ, ◌+◌, ◌-◌, ◌≤◌, ◌<◌, min}
use native.Mathlib.Nat.{eq-zero-or-pos}
use native.Mathlib.Omega.{arith}
use mathlib.Core.Logic.{◌⊎◌, inl, inr}
use mathlib.Core.List.{List, [], ◌++◌, map}
use lib.ListN.{length, take, drop, get_or, length-drop, length-append}
use lib.Seq.{sets, take_all, length-sets}
use Rattle.fields.specs.Lists.{kept}
use Rattle.fields.specs.Bytes.{Bytes, part, join}
use Rattle.fields.proofs.ListLaws.{map-map}
use Rattle.lasfile.specs.Records.{front_size, record_of, record_bytes, records_bytes, walk}
use Rattle.lasfile.specs.HeaderFields.{header_size, record_count}
use Rattle.publicpart.specs.Public.{sheet_keeps, public_of}
use Rattle.publicpart.proofs.PublicLaws.{contents_records, public_records}
use Rattle.publicpart.specs.declared.Span.{Span}
use Rattle.publicpart.specs.declared.Released.{Released}
use Rattle.publicpart.specs.Cutting.{span, named, record_named, payload_lines, record_lines, point_lines}
use Rattle.publicpart.proofs.CuttingLaws.{payload_records, point_lines_name}
use Rattle.release.specs.Writing.{record_from, records_named, points_named, items}
use Rattle.std.proofs.Common.{drop-cons}
use Rattle.std.proofs.lemmas.Grind.{common_steps}
use Rattle.fields.proofs.StoreLaws.{sets-append}
use native.Mathlib.Numerals.{add-one}

pub record_from_lem : (s : Bytes) (l : Span) → record_from s l ≡ record_bytes 2 (record_of 2 (part (l.place - front_size 2) (front_size 2 + l.length) s))
unfolding record_from record_named
record_from_lem s l = refl

-- a part that may be longer than what there is
pub part_least : (at w n m : ℕ) (s : Bytes) → m ≡ min n (length s) → part at (w + m) s ≡ part at (w + n) s
unfolding part
part_least at w n m s e = go (eq-zero-or-pos (n - length s))
  where
    all : (k : ℕ) → length s ≤ k → take (w + k) (drop at s) ≡ drop at s
    all k h = take_all (w + k) (drop at s) (simp length-drop (omega arith))

    go : (n - length s ≡ 0) ⊎ (0 < n - length s) → take (w + m) (drop at s) ≡ take (w + n) (drop at s)
    go (inl k) = let f : m ≡ n = omega arith in rw f
    go (inr k) = all m (omega arith) ∙ sym (all n (omega arith))

-- ---- lines one after the other

pub records_next : (s : Bytes) (ls : List Span) (i : ℕ) → i < length ls
    → records_named s (drop i ls) ≡ record_from s (get_or ls i (span 0 0)) ++ records_named s (drop (i + 1) ls)
unfolding records_named join
records_next s ls i h = rw (add-one, drop-cons ls i (span 0 0) h) refl

pub points_next : (s : Bytes) (ls : List Span) (i : ℕ) → i < length ls
    → points_named s (drop i ls) ≡ named s (get_or ls i (span 0 0)) ++ points_named s (drop (i + 1) ls)
unfolding points_named join
points_next s ls i h = rw (add-one, drop-cons ls i (span 0 0) h) refl

pub records_none : (s : Bytes) → records_named s [] ≡ []
unfolding records_named join
records_none s = refl

pub points_none : (s : Bytes) → points_named s [] ≡ []
unfolding points_named join
points_none s = refl

pub ruleset writing = (common_steps, records_next, points_next, records_none, points_none, sets-append, length-sets, length-append)

-- a turn of the loop that writes records
module _ (s : Bytes) (ls : List Span) (i : ℕ) (less : i < length ls) (begun out after : Bytes) (from to n : ℕ)
    (size : n ≡ length (record_from s (get_or ls i (span 0 0)))) where
  pub record_out : after ≡ sets out to (record_from s (get_or ls i (span 0 0)))
      → sets out to (records_named s (drop i ls)) ≡ sets begun from (records_named s ls)
      → sets after (to + n) (records_named s (drop (i + 1) ls)) ≡ sets begun from (records_named s ls)
  record_out wrote same =
      rw (wrote, size)
      (sym (sets-append out to (record_from s (get_or ls i (span 0 0))) (records_named s (drop (i + 1) ls)))
      ∙ ap (sets out to) (sym (records_next s ls i less)) ∙ same)

  pub record_long : after ≡ sets out to (record_from s (get_or ls i (span 0 0))) → length out ≡ length begun → length after ≡ length begun
  record_long wrote long = ap length wrote ∙ length-sets out to (record_from s (get_or ls i (span 0 0))) ∙ long

  pub record_left : to + length (records_named s (drop i ls)) ≡ from + length (records_named s ls)
      → to + n + length (records_named s (drop (i + 1) ls)) ≡ from + length (records_named s ls)
  record_left left =
      omega (arith, size, left, ap length (records_next s ls i less), length-append (record_from s (get_or ls i (span 0 0))) (records_named s (drop (i + 1) ls)))

-- the records of the first lines, and the points of those behind them
module _ (s : Bytes) (list : List Span) (r : Released) where
  pub length-items : length (items s list r) ≡ length (records_named s (take r.records list)) + length (points_named s (take r.points (drop r.records list)))
  unfolding items
  length-items = length-append (records_named s (take r.records list)) (points_named s (take r.points (drop r.records list)))

  pub in_two : (out : Bytes) (at : ℕ) → sets (sets out at (records_named s (take r.records list))) (at + length (records_named s (take r.records list))) (points_named s (take r.points (drop r.records list)))
      ≡ sets out at (items s list r)
  unfolding items
  in_two out at = sym (sets-append out at (records_named s (take r.records list)) (points_named s (take r.points (drop r.records list))))

-- ---- all that a cutting list names

module _ (s : Bytes) where
  records_from : (sheet : Bytes) (n at : ℕ) → map (record_from s) (payload_lines sheet s n at) ≡ map (record_bytes 2) (kept (sheet_keeps sheet) (walk 2 n at s))
  unfolding record_from
  records_from sheet n at = sym (map-map (record_named s) (record_bytes 2) (payload_lines sheet s n at)) ∙ ap (map (record_bytes 2)) (payload_records sheet s n at)

-- its kept records and points
pub cut_items : (sheet s : Bytes) → records_named s (record_lines sheet s) ++ points_named s (point_lines sheet s)
    ≡ records_bytes 2 (public_of sheet s).records ++ join (public_of sheet s).points
unfolding records_named points_named records_bytes record_lines
cut_items sheet s =
    rw (point_lines_name sheet s, records_from s sheet (record_count s) (header_size s), public_records sheet s, contents_records s) refl
