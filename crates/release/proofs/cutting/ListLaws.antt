-- What `decide_list` and `fill_list` ensure is what a cutting list promises: no line of this file is about code.
-- Assumes nothing.
use mathlib.Core.Path.{◌≡◌, refl, ap, ◌∙◌}
use Prim.Native.Nat.{ℕ, ◌≤◌}
use native.Mathlib.Omega.{arith}
use mathlib.Core.List.{List}
use lib.ListN.{length, take}
use lib.Seq.{take-length}
use Rattle.fields.specs.Bytes.{Bytes}
use Rattle.fields.specs.Checks.{Verdict, Passes, Fails}
use Rattle.publicpart.proofs.CuttingLaws.{listable}
use Rattle.publicpart.specs.declared.Span.{Span}
use Rattle.publicpart.specs.Cutting.{Listed, Refused, cutting_lines, fill, list_verdict, list_under, cutting_list}
use Rattle.release.specs.ByList.{DecidesList, lines_listed}

-- so many lines there are, and the list has room for them
abbrev pub Fillable : List Span → List Span → ℕ → Type 0
Fillable lines list n = (n ≤ length lines) × (n ≤ length list)

room_under : (v : Verdict) (lines list : List Span) (r : Listed) → (v ≡ Passes → length lines ≤ length list)
    → r ≡ (list_under v lines list).0 → Fillable lines list (lines_listed r)
unfolding list_under
room_under (Fails n) lines list r h e = rw e (omega arith, omega arith)
room_under Passes lines list r h e = rw e (omega arith, h refl)

-- the lines that are answered go into the list
pub has_room : (sheet s : Bytes) (list : List Span) (r : Listed) → DecidesList sheet s (length list) r
    → Fillable (cutting_lines sheet s) list (lines_listed r)
unfolding cutting_list
has_room sheet s list r d =
    room_under (list_verdict sheet s (length list)) (cutting_lines sheet s) list r (λ e. (listable sheet s (length list) e).room_for)
    (d list refl)

cutting_under : (v : Verdict) (lines list zs : List Span) (r : Listed) → r ≡ (list_under v lines list).0
    → zs ≡ fill (take (lines_listed r) lines) list → (r, zs) ≡ list_under v lines list
unfolding list_under fill
cutting_under (Fails n) lines list zs r e f =
    λ i. (e i, (f ∙ ap (λ (x : Listed). fill (take (lines_listed x) lines) list) e) i)
cutting_under Passes lines list zs r e f =
    λ i. (e i, (f ∙ ap (λ (x : Listed). fill (take (lines_listed x) lines) list) e ∙ ap (λ (l : List Span). fill l list) (take-length lines)) i)

-- the answer, and the list filled with as many lines as it says
pub is_cutting : (sheet s : Bytes) (list zs : List Span) (r : Listed) → DecidesList sheet s (length list) r
    → zs ≡ fill (take (lines_listed r) (cutting_lines sheet s)) list → (r, zs) ≡ cutting_list sheet s list
unfolding cutting_list
is_cutting sheet s list zs r d e =
    cutting_under (list_verdict sheet s (length list)) (cutting_lines sheet s) list zs r (d list refl) e

-- a refusal leaves the list as it was
pub as_it_was : (sheet s : Bytes) (list : List Span) (n : ℕ) → DecidesList sheet s (length list) (Refused n) → (Refused n, list) ≡ cutting_list sheet s list
unfolding fill
as_it_was sheet s list n d = is_cutting sheet s list list (Refused n) d refl
