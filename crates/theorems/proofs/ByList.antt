-- A release by a list that is long enough is the release, and so what demand 3 says of the one holds of the other.
-- Assumes nothing.
use mathlib.Core.Path.{◌≡◌, sym, ap, subst, ◌∙◌}
use Prim.Native.Nat.{ℕ, ◌≤◌}
use native.Mathlib.Omega.{arith}
use mathlib.Core.List.{List}
use lib.ListN.{length, take}
use Rattle.fields.specs.Bytes.{Bytes}
use Rattle.publicpart.specs.declared.Span.{Span}
use Rattle.publicpart.specs.Release.{Outcome, release}
use Rattle.publicpart.proofs.CuttingLaws.{length-cutting_lines, listable, by_list_same, by_list_listable, by_list_filled}
use Rattle.theorems.specs.Terms.{enough, Accepted, OfOutput}
use Rattle.theorems.specs.Demand3.{in_length}
use Rattle.theorems.specs.ByList.{by_list, AcceptedByList, OfOutputByList, ByList, Demand3ByList}
use Rattle.theorems.proofs.Demand3.{demand3}
use Rattle.theorems.proofs.ReleaseLaws.{released_public, Known, accepted_means, of_output}

-- a list that is long enough
same : (sheet f a : Bytes) (l : List Span) → enough sheet f ≤ length l → by_list sheet f a l ≡ release sheet f a
same sheet f a l room = by_list_same sheet f a l (λ _ _. room)

-- the list of an accepted one was
long_enough : (sheet f a : Bytes) (l : List Span) (n q r : ℕ) → AcceptedByList sheet f a l n q r → enough sheet f ≤ length l
long_enough sheet f a l n q r h =
    omega (arith, length-cutting_lines sheet f, (listable sheet f (length l) (by_list_listable sheet f a l n q r h.answer)).room_for)

same_accepted : (sheet f a : Bytes) (l : List Span) (n q r : ℕ) → AcceptedByList sheet f a l n q r → by_list sheet f a l ≡ release sheet f a
same_accepted sheet f a l n q r h = same sheet f a l (long_enough sheet f a l n q r h)

-- an accepted one is an accepted release
accepted : (sheet f a : Bytes) (l : List Span) (n q r : ℕ) → AcceptedByList sheet f a l n q r → Accepted sheet f a n q r
accepted sheet f a l n q r h =
    record { bytes = h.bytes; answer = ap (λ (o : Outcome). o.0) (sym (same_accepted sheet f a l n q r h)) ∙ h.answer }

-- what holds of a release's output holds of its output
of_listed : (sheet f a : Bytes) (l : List Span) (n q r : ℕ) (P : Bytes → Type 0) → AcceptedByList sheet f a l n q r → OfOutput sheet f a n P → OfOutputByList sheet f a l n P
of_listed sheet f a l n q r P h x = subst (λ (o : Outcome). P o.1 × P (take n o.1)) (sym (same_accepted sheet f a l n q r h)) x

-- a list that is long enough for a file is long enough for its released file
enough_again : (sheet f a : Bytes) (n q r : ℕ) (m : List Span) → Accepted sheet f a n q r → enough sheet f ≤ length m
    → OfOutput sheet f a n (λ file. enough sheet file ≤ length m)
enough_again sheet f a n q r m h room =
    let k : Known sheet f a n q r = accepted_means sheet f a n q r h in
    of_output sheet f a n q r (λ file. enough sheet file ≤ length m) k (λ z. rw (released_public sheet f k.good z) room)

again : (sheet f a b : Bytes) (l m : List Span) (n q r : ℕ) → AcceptedByList sheet f a l n q r → n ≤ length b → enough sheet f ≤ length m
    → OfOutputByList sheet f a l n (λ file. by_list sheet file b m ≡ in_length n (length b) (by_list sheet f a l))
again sheet f a b l m n q r h room lines =
    let h' = accepted sheet f a l n q r h in
    let e : in_length n (length b) (release sheet f a) ≡ in_length n (length b) (by_list sheet f a l) = ap (in_length n (length b)) (sym (same_accepted sheet f a l n q r h)) in
    let g = demand3.again sheet f a b n q r h' room in
    let x = enough_again sheet f a n q r m h' lines in
    of_listed sheet f a l n q r (λ file. by_list sheet file b m ≡ in_length n (length b) (by_list sheet f a l)) h
    (same sheet _ b m x.0 ∙ g.0 ∙ e, same sheet _ b m x.1 ∙ g.1 ∙ e)

again_same : (sheet f a b : Bytes) (l m : List Span) (n q r : ℕ) → AcceptedByList sheet f a l n q r → length b ≡ length a → enough sheet f ≤ length m
    → OfOutputByList sheet f a l n (λ file. by_list sheet file b m ≡ by_list sheet f a l)
again_same sheet f a b l m n q r h alike lines =
    let h' = accepted sheet f a l n q r h in
    let e : release sheet f a ≡ by_list sheet f a l = sym (same_accepted sheet f a l n q r h) in
    let g = demand3.again_same sheet f a b n q r h' alike in
    let x = enough_again sheet f a n q r m h' lines in
    of_listed sheet f a l n q r (λ file. by_list sheet file b m ≡ by_list sheet f a l) h (same sheet _ b m x.0 ∙ g.0 ∙ e, same sheet _ b m x.1 ∙ g.1 ∙ e)

pub by_list_lem : ByList
by_list_lem = record { same = by_list_same; listed = λ sheet f a l n q r e. by_list_filled sheet f a l n q r e }

pub demand3_by_list : Demand3ByList
demand3_by_list =
    record {
      exactly =
          λ sheet f g a b l m sheet_good good_f good_g alike room_f room_g lines_f lines_g.
          rw (same sheet f a l lines_f, same sheet g b m lines_g) (demand3.exactly sheet f g a b sheet_good good_f good_g alike room_f room_g);
      short =
          λ sheet f g a b l m sheet_good good_f good_g alike lines_f lines_g public less.
          rw (same sheet f a l lines_f, same sheet g b m lines_g) (demand3.short sheet f g a b sheet_good good_f good_g alike public less);
      again = again;
      again_same = again_same;
    }
