-- What a release by a list answers, from what the cutting list answers: no line of this file is about code.
-- Assumes nothing.
use mathlib.Core.Path.{◌≡◌, sym, ap, ◌∙◌}
use Prim.Native.Nat.{ℕ}
use mathlib.Core.List.{List}
use lib.ListN.{length, replicate, length-replicate}
use Rattle.fields.specs.Bytes.{Bytes}
use Rattle.fields.specs.Checks.{Passes}
use Rattle.publicpart.specs.declared.Span.{Span}
use Rattle.publicpart.specs.Release.{Answer}
use Rattle.publicpart.specs.Release as answer
use Rattle.publicpart.specs.Cutting.{Listed, Lines, Refused, span, cutting_lines, list_verdict, release_by_list}
use Rattle.publicpart.proofs.CuttingLaws.{listable, lines_said, refused_said, length-cutting_lines, by_list_refused, by_list_passed}
use Rattle.release.specs.ByList.{DecidesList, DecidesRoom, Counted}

module _ (sheet s : Bytes) (lines : ℕ) (r : Listed) (d : DecidesList sheet s lines r) where
  -- some list of so many lines
  abbrev some : List Span
  some = replicate lines (span 0 0)

  module _ (n : ℕ) (e : r ≡ Lines n) where
    said : (list : List Span) → length list ≡ lines → (list_verdict sheet s (length list) ≡ Passes) × (n ≡ length (cutting_lines sheet s))
    said list l = lines_said sheet s list n (sym e ∙ d list l)

    pub counted_by : Counted sheet s n
    counted_by =
        let h = said some (length-replicate lines (span 0 0)) in
        ((listable sheet s (length some) h.0).file_passes, h.1 ∙ length-cutting_lines sheet s)

  -- a refusal of the list is one of the release
  pub decided_refused : (n : ℕ) → r ≡ Refused n → (out : Bytes) (list : List Span) → length list ≡ lines → answer.Refused n ≡ (release_by_list sheet s out list).0.0
  decided_refused n e out list l = sym (ap (λ o. o.0.0) (by_list_refused sheet s out list n (refused_said sheet s list n (sym e ∙ d list l))))

pub decided_room : (sheet s : Bytes) (room lines : ℕ) (r : Listed) → DecidesList sheet s lines r → (n : ℕ) → r ≡ Lines n → (a : Answer) → DecidesRoom sheet s room a
    → (out : Bytes) (list : List Span) → length out ≡ room → length list ≡ lines → a ≡ (release_by_list sheet s out list).0.0
decided_room sheet s room lines r d n e a f out list o l =
    f out o ∙ sym (ap (λ o. o.0.0) (by_list_passed sheet s out list (lines_said sheet s list n (sym e ∙ d list l)).0))
