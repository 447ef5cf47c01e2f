-- Where the loop of `fill_kept` stands, and what its proof asks of it: no line of this file is about code.
-- Assumes nothing.
use mathlib.Core.Path.{◌≡◌, sym, ap, ◌∙◌}
use Prim.Native.Nat.{ℕ, ◌+◌, ◌<◌, ◌≤◌}
use native.Mathlib.Omega.{arith}
use mathlib.Core.Bool.{true, false}
use mathlib.Core.List.{List, [], ◌++◌, append_assoc}
use Rattle.release.specs.declared.kept_points.Keeper.{Keeper}
use lib.ListN.{length, take, drop, set, length-append, length-set, take-append-drop}
use lib.Seq.{length-take-le, take_at, drop-set-lt}
use borrow.Author.Tests.{ltb-true, ltb-false}
use Rattle.fields.specs.Lists.{cons_if}
use Rattle.fields.specs.Bytes.{Bytes}
use Rattle.fields.proofs.ListLaws.{cons_if-append}
use Rattle.publicpart.specs.declared.Span.{Span}
use Rattle.publicpart.specs.Cutting.{span, fill}
use Rattle.release.specs.declared.filling.Filling.{Filling}
use Rattle.release.specs.Filling.{lines_from, kept_lines, Ready, HasLine, Looked}
use Rattle.release.proofs.kept_points.LoopLaws.{step_le, take_put}
use Rattle.release.proofs.filling.LineLaws.{some_left}

-- the line at which the filling stands
abbrev here : Filling → Span
here t = span t.place t.length

-- n lines are to be filled into the list as it was, ys; the filling stands at t, and the list is zs. Its lines before
-- line k and those of what is still to look at are all the lines. Line k may be any, and from line n on the list is as
-- it was
pub record Filled (sheet : Bytes) (keeper : Keeper) (s : Bytes) (n : ℕ) (ys : List Span) (t : Filling) (zs : List Span) : Type 0 where
  pub ready : Ready s t
  pub hand : HasLine s t
  pub bound : t.n ≡ n
  pub all : take t.k zs ++ lines_from sheet keeper s t ≡ kept_lines sheet keeper s
  pub few : t.k ≤ n
  pub back : drop n zs ≡ drop n ys
  pub long : length zs ≡ length ys

module _ (sheet : Bytes) (keeper : Keeper) (s : Bytes) (n : ℕ) (ys : List Span) where
  module _ (small : n ≤ length (kept_lines sheet keeper s)) (fits : n ≤ length ys) (t : Filling) (zs : List Span) (a : Filled sheet keeper s n ys t zs) where
    -- the lines before line k are k lines
    front : length (take t.k zs) ≡ t.k
    front = length-take-le t.k zs (omega (arith, a.few, a.long))

    module _ (yes : t.more ≡ true) where
      below : t.k < n
      below = omega (arith, ltb-true t.k t.n (sym a.hand.more ∙ yes), a.bound)

      pub has_place : t.k < length zs
      has_place = omega (arith, below, a.long)

      pub has_more : 0 < t.records + t.points
      has_more =
          some_left sheet keeper s t
          (omega (arith, below, front, sym (length-append (take t.k zs) (lines_from sheet keeper s t)) ∙ ap length a.all))

      module _ (t' : Filling) (l : Looked sheet keeper s t t') (h : HasLine s t') (zs' : List Span) (e : zs' ≡ set zs t.k (here t)) where
        still_all : take t'.k zs' ++ lines_from sheet keeper s t' ≡ kept_lines sheet keeper s
        still_all =
            let rest : List Span = lines_from sheet keeper s t' in
            let before : List Span = take t.k zs in
            let put = take_put t.k zs (here t) l.keep has_place in
            (λ i. take (l.count i) (e i) ++ rest)
            ∙ ap (λ (x : List Span). x ++ rest) put
            ∙ append_assoc before (cons_if l.keep (here t) []) rest
            ∙ ap (λ (x : List Span). before ++ x) (cons_if-append l.keep (here t) [] rest ∙ sym l.lines)
            ∙ a.all

        pub next_turn : Filled sheet keeper s n ys t' zs'
        next_turn = record {
          ready = l.ready;
          hand = h;
          bound = l.bound ∙ a.bound;
          all = still_all;
          few = omega (arith, below, l.count, step_le l.keep 1);
          back = ap (drop n) e ∙ drop-set-lt n zs t.k (here t) below ∙ a.back;
          long = ap length e ∙ length-set zs t.k (here t) ∙ a.long;
        }

    -- all n lines are filled
    pub at_end : t.more ≡ false → zs ≡ fill (take n (kept_lines sheet keeper s)) ys
    unfolding fill
    at_end no_more =
        let full : t.k ≡ n = omega (arith, a.few, ltb-false t.k t.n (sym a.hand.more ∙ no_more), a.bound) in
        let lines : take n (kept_lines sheet keeper s) ≡ take n zs =
        ap (take n) (sym a.all) ∙ take_at (take t.k zs) (lines_from sheet keeper s t) n (front ∙ full) ∙ ap (λ (k : ℕ). take k zs) full in
        let number : length (take n (kept_lines sheet keeper s)) ≡ n = length-take-le n (kept_lines sheet keeper s) small in
        sym (take-append-drop n zs) ∙ (λ i. sym lines i ++ a.back i) ∙ ap (λ (m : ℕ). take n (kept_lines sheet keeper s) ++ drop m ys) (sym number)
