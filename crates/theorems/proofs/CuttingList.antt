-- What is proved of the cutting list. Its lines are a chain: each begins where the one before it ends, or behind that.
-- Assumes nothing.
use mathlib.Core.Path.{◌≡◌, refl, ap}
use Prim.Native.Nat.{ℕ, zero, suc, ◌+◌, ◌*◌, ◌≤◌, ◌<◌}
use native.Mathlib.Omega.{arith}
use mathlib.Core.Bool.{Bool, true, false}
use mathlib.Core.List.{List, [], ◌∷◌, ◌++◌, map}
use lib.ListN.{length, drop}
use lib.Dec.{leb}
use borrow.Author.Tests.{leb-true, leb-false}
use Rattle.fields.specs.Lists.{kept, cons_if}
use Rattle.fields.specs.Bytes.{Bytes, join, part}
use Rattle.lasfile.specs.Records.{size_of, places, record_at, walk_end}
use Rattle.lasfile.specs.HeaderFields.{header_size, point_offset, record_count, format, record_length, point_count}
use Rattle.fields.specs.Checks.{Passes}
use Rattle.lasfile.specs.FileChecks.{file_verdict}
use Rattle.lasfile.proofs.Passed.{passed, records_end_lem}
use Rattle.sheet.specs.Keeping.{keeps_point}
use Rattle.publicpart.specs.Public.{sheet_keeps}
use Rattle.publicpart.specs.declared.Span.{Span}
use Rattle.publicpart.specs.Cutting.{span, payload_line, payload_lines, strides, piece_lines, record_lines, point_lines, cutting_lines}
use Rattle.publicpart.proofs.CuttingLaws.{record_lines_name, point_lines_name, length-cutting_lines}
use Rattle.theorems.specs.CuttingList.{line_at, end_of, InOrder, NamesWhatIsKept}

-- ---- a chain of lines, from one place to another

abbrev Chain : ℕ → List Span → ℕ → Type 0
Chain from [] to = from ≤ to
Chain from (l ∷ ls) to = (from ≤ l.place) × Chain (end_of l) ls to

chain_earlier : (from from' to : ℕ) (ls : List Span) → from' ≤ from → Chain from ls to → Chain from' ls to
chain_earlier from from' to [] h c = omega arith
chain_earlier from from' to (l ∷ ls) h c = (omega (arith, c.0), c.1)

chain_later : (from to to' : ℕ) (ls : List Span) → to ≤ to' → Chain from ls to → Chain from ls to'
chain_later from to to' [] h c = omega arith
chain_later from to to' (l ∷ ls) h c = (c.0, chain_later (end_of l) to to' ls h c.1)

chain_join : (from mid to : ℕ) (xs ys : List Span) → Chain from xs mid → Chain mid ys to → Chain from (xs ++ ys) to
chain_join from mid to [] ys c d = chain_earlier mid from to ys c d
chain_join from mid to (x ∷ xs) ys c d = (c.0, chain_join (end_of x) mid to xs ys c.1 d)

-- a chain goes forward
chain_forward : (from to : ℕ) (ls : List Span) → Chain from ls to → from ≤ to
chain_forward from to [] c = c
chain_forward from to (l ∷ ls) c = omega (arith, c.0, chain_forward (end_of l) to ls c.1)

-- its lines begin behind its front, end by its end, and each by where any later one begins
chain_begins : (from to : ℕ) (ls : List Span) → Chain from ls to → (i : ℕ) → i < length ls → from ≤ (line_at ls i).place
chain_begins from to [] c i h = absurd (omega arith)
chain_begins from to (l ∷ ls) c zero h = c.0
chain_begins from to (l ∷ ls) c (suc i) h = omega (arith, c.0, chain_begins (end_of l) to ls c.1 i (omega arith))

chain_ends : (from to : ℕ) (ls : List Span) → Chain from ls to → (i : ℕ) → i < length ls → end_of (line_at ls i) ≤ to
chain_ends from to [] c i h = absurd (omega arith)
chain_ends from to (l ∷ ls) c zero h = chain_forward (end_of l) to ls c.1
chain_ends from to (l ∷ ls) c (suc i) h = chain_ends (end_of l) to ls c.1 i (omega arith)

chain_apart : (from to : ℕ) (ls : List Span) → Chain from ls to → (i j : ℕ) → i < j → j < length ls
    → end_of (line_at ls i) ≤ (line_at ls j).place
chain_apart from to [] c i j h k = absurd (omega arith)
chain_apart from to (l ∷ ls) c i zero h k = absurd (omega arith)
chain_apart from to (l ∷ ls) c zero (suc j) h k = chain_begins (end_of l) to ls c.1 j (omega arith)
chain_apart from to (l ∷ ls) c (suc i) (suc j) h k = chain_apart (end_of l) to ls c.1 i j (omega arith) (omega arith)

-- ---- the lines of a file are one

-- a line that is there or not, and those behind it
chain_if : (b : Bool) (at next to a : ℕ) (line : ℕ → Span) (later : List ℕ) → at ≤ (line a).place → end_of (line a) ≡ next → at ≤ next
    → Chain next (map line later) to → Chain at (map line (cons_if b a later)) to
unfolding cons_if
chain_if true at next to a line later low high go c = (low, rw high c)
chain_if false at next to a line later low high go c = chain_earlier next at to (map line later) go c

payload_chain : (sheet s : Bytes) (n at : ℕ) → Chain at (payload_lines sheet s n at) (walk_end 2 n at s)
unfolding payload_lines kept places walk_end
payload_chain sheet s zero at = omega arith
payload_chain sheet s (suc n) at =
    let next : ℕ = at + size_of 2 (drop at s) in
    chain_if (sheet_keeps sheet (record_at 2 s at)) at next (walk_end 2 n next s) at (payload_line s) (kept (λ a. sheet_keeps sheet (record_at 2 s a)) (places 2 n next s))
    (begins at) (ends at) (omega arith) (payload_chain sheet s n next)
  where
    begins : (at : ℕ) → at ≤ (payload_line s at).place
    begins at = unfold payload_line in omega arith

    ends : (at : ℕ) → end_of (payload_line s at) ≡ at + size_of 2 (drop at s)
    ends at = unfold payload_line size_of in omega arith

piece_chain : (keep : Bytes → Bool) (s : Bytes) (len n at : ℕ) → Chain at (piece_lines keep s len n at) (at + n * len)
unfolding piece_lines kept strides
piece_chain keep s len zero at = omega arith
piece_chain keep s len (suc n) at =
    let e : at + len + n * len ≡ at + suc n * len = omega arith in
    chain_if (keep (part at len s)) at (at + len) (at + suc n * len) at (λ a. span a len) (kept (λ a. keep (part a len s)) (strides len n (at + len)))
    (omega arith) refl (omega arith) (rw e at (piece_chain keep s len n (at + len)))

file_chain : (sheet s : Bytes) → file_verdict s ≡ Passes → Chain (header_size s) (cutting_lines sheet s) (length s)
unfolding cutting_lines record_lines point_lines
file_chain sheet s good =
    let p = passed s good in
    let rs : List Span = payload_lines sheet s (record_count s) (header_size s) in
    let ps : List Span = piece_lines (keeps_point sheet (format s)) s (record_length s) (point_count s) (point_offset s) in
    chain_join (header_size s) (point_offset s) (length s) rs ps
    (chain_later (header_size s) (walk_end 2 (record_count s) (header_size s) s) (point_offset s) rs (omega (arith, records_end_lem s, p.walked)) (payload_chain sheet s (record_count s) (header_size s)))
    (chain_later (point_offset s) (point_offset s + point_count s * record_length s) (length s) ps p.pointed (piece_chain (keeps_point sheet (format s)) s (record_length s) (point_count s) (point_offset s)))

rising : (ls : List Span) (from to : ℕ) → Chain from ls to → (i j : ℕ) → i ≤ j → j < length ls → (line_at ls i).place ≤ (line_at ls j).place
rising ls from to c i j h k = by_order (leb j i) refl
  where
    by_order : (b : Bool) → leb j i ≡ b → (line_at ls i).place ≤ (line_at ls j).place
    by_order true e = let f : i ≡ j = omega (arith, leb-true j i e) in rw f (omega arith)
    by_order false e = omega (arith, chain_apart from to ls c i j (leb-false j i e) k)

pub in_order : InOrder
in_order =
    record {
      inside = λ sheet file good i h. chain_ends (header_size file) (length file) (cutting_lines sheet file) (file_chain sheet file good) i h;
      rising = λ sheet file good i j h k. rising (cutting_lines sheet file) (header_size file) (length file) (file_chain sheet file good) i j h k;
      apart = λ sheet file good i j h k. chain_apart (header_size file) (length file) (cutting_lines sheet file) (file_chain sheet file good) i j h k;
    }

pub names_what_is_kept : NamesWhatIsKept
names_what_is_kept =
    record {
      counted = length-cutting_lines;
      payloads = record_lines_name;
      points = point_lines_name;
      joined_payloads = λ sheet file. ap join (record_lines_name sheet file);
      joined_points = λ sheet file. ap join (point_lines_name sheet file);
    }
