-- The class test: the lines that are looked at are those up to and with the first that contains the class.
-- Assumes nothing.
use mathlib.Core.Path.{◌≡◌, refl, sym, ap, subst, ◌∙◌}
use mathlib.Core.Logic.{◌↔◌}
use Prim.Native.Nat.{ℕ, ◌+◌, ◌≤◌}
use native.Mathlib.Omega.{arith}
use mathlib.Core.Bool.{Bool, true, false}
use mathlib.Core.List.{List, [], ◌∷◌, ◌++◌}
use lib.ListN.{length}
use lib.Dec.{eqb}
use Rattle.fields.specs.Checks.{Verdict, Passes, Fails}
use Rattle.fields.specs.Lists.{All, any_of}
use Rattle.fields.specs.Bytes.{Bytes}
use Rattle.sheet.specs.Sheet.{kind, lines, sheet_verdict}
use Rattle.sheet.specs.Keeping.{contains_class, keeps_class, kept_under, up_to_first, lines_for, tested_under, class_test}
use Rattle.sheet.proofs.FirstLaws.{first_passes, first_fails, no_lines}
use Rattle.sheet.specs.Tests.{Held, NotHeld, Refused}
use Rattle.capi.specs.Answers.{kept_numbers, tested_numbers}
use Rattle.capi.specs.Interface.{las_class_kept, las_class_test}
use Rattle.theorems.specs.Sheets.{SomeLine}
use Rattle.theorems.specs.ClassTests.{FirstThat, LinesLookedAt, without_lines, SaysWhatIsKept}
use Rattle.theorems.proofs.sheet.SheetLaws.{lines_are}
use Rattle.theorems.proofs.sheet.KeepingLaws.{some_says}

-- two answers of two kinds are not the same
clash : {A : Type 0} → ◌≡◌ {A = ℕ} 0 1 → A
clash e = absurd (omega (arith, e))

-- ---- the first line that passes a test

module _ (p : Bytes → Bool) where
  first_here : (l : Bytes) (ls : List Bytes) → p l ≡ true → FirstThat p (l ∷ ls) (up_to_first p (l ∷ ls))
  first_here l ls e =
      record { before = []; line = l; after = ls; whole = refl; earlier = tt; own = e; counted = (first_passes p l ls e).1 }

  first_later : (l : Bytes) (ls : List Bytes) → p l ≡ false → FirstThat p ls (up_to_first p ls)
      → FirstThat p (l ∷ ls) (up_to_first p (l ∷ ls))
  first_later l ls e w =
      record {
        before = l ∷ w.before;
        line = w.line;
        after = w.after;
        whole = ap (λ (k : List Bytes). l ∷ k) w.whole;
        earlier = (e, w.earlier);
        own = w.own;
        counted = omega (arith, (first_fails p l ls e).1, w.counted);
      }

  first_that : (ls : List Bytes) → any_of p ls ≡ true → FirstThat p ls (up_to_first p ls)
  first_that [] e = let z = no_lines p [] refl in clash cc
  first_that (l ∷ ls) e = decide (p l) refl (first_that ls)
    where
      decide : (b : Bool) → p l ≡ b → (any_of p ls ≡ true → FirstThat p ls (up_to_first p ls)) → FirstThat p (l ∷ ls) (up_to_first p (l ∷ ls))
      decide true f later = first_here l ls f
      decide false f later = first_later l ls f (later (sym (first_fails p l ls f).0 ∙ e))

  -- the lines up to and with one that passes, where none before it does
  counted_to : (before : List Bytes) (l : Bytes) (after : List Bytes) → All (λ k. p k ≡ false) before → p l ≡ true
      → (any_of p (before ++ l ∷ after) ≡ true) × (up_to_first p (before ++ l ∷ after) ≡ length before + 1)
  counted_to [] l after h e = first_passes p l after e
  counted_to (k ∷ ks) l after h e =
      let z = first_fails p k (ks ++ l ∷ after) h.0 in
      let w = counted_to ks l after h.1 e in
      (z.0 ∙ w.0, omega (arith, z.1, w.1))

  first_counted : (ls : List Bytes) (n : ℕ) → FirstThat p ls n → (any_of p ls ≡ true) × (up_to_first p ls ≡ n)
  first_counted ls n w =
      let c = counted_to w.before w.line w.after w.earlier w.own in
      (rw w.whole c.0, rw (w.whole, w.counted) c.1)

  none_counted : (ls : List Bytes) → All (λ l. p l ≡ false) ls → (any_of p ls ≡ false) × (up_to_first p ls ≡ length ls)
  none_counted [] h = no_lines p [] refl
  none_counted (l ∷ ls) h =
      let z = first_fails p l ls h.0 in
      let w = none_counted ls h.1 in
      (z.0 ∙ w.0, omega (arith, z.1, w.1))

  none_that : (ls : List Bytes) → any_of p ls ≡ false → All (λ l. p l ≡ false) ls
  none_that [] e = tt
  none_that (l ∷ ls) e = decide (p l) refl (none_that ls)
    where
      decide : (b : Bool) → p l ≡ b → (any_of p ls ≡ false → All (λ k. p k ≡ false) ls) → All (λ k. p k ≡ false) (l ∷ ls)
      decide true f later = let z = first_passes p l ls f in clash cc
      decide false f later = (f, later (sym (first_fails p l ls f).0 ∙ e))

  at_most_all : (ls : List Bytes) → up_to_first p ls ≤ length ls
  at_most_all [] = omega (arith, (no_lines p [] refl).1)
  at_most_all (l ∷ ls) = decide (p l) refl (at_most_all ls)
    where
      decide : (b : Bool) → p l ≡ b → up_to_first p ls ≤ length ls → up_to_first p (l ∷ ls) ≤ length (l ∷ ls)
      decide true f later = omega (arith, (first_passes p l ls f).1)
      decide false f later = omega (arith, (first_fails p l ls f).1, later)

-- ---- an answer, by the sheet's verdict, whether the class is held, and the lines looked at

held_under : (v : Verdict) (b : Bool) (m n : ℕ) → (tested_under v b m ≡ Held n) ↔ ((v ≡ Passes) × (b ≡ true) × (m ≡ n))
unfolding tested_under
held_under Passes true m n = (λ e. (refl, refl, cc), λ h. ap Held h.2)
held_under Passes false m n = (λ e. clash cc, λ h. clash cc)
held_under (Fails k) b m n = (λ e. clash cc, λ h. clash cc)

not_held_under : (v : Verdict) (b : Bool) (m n : ℕ) → (tested_under v b m ≡ NotHeld n) ↔ ((v ≡ Passes) × (b ≡ false) × (m ≡ n))
unfolding tested_under
not_held_under Passes true m n = (λ e. clash cc, λ h. clash cc)
not_held_under Passes false m n = (λ e. (refl, refl, cc), λ h. ap NotHeld h.2)
not_held_under (Fails k) b m n = (λ e. clash cc, λ h. clash cc)

refused_under : (v : Verdict) (b : Bool) (m n : ℕ) → (tested_under v b m ≡ Refused n) ↔ (v ≡ Fails n)
unfolding tested_under
refused_under Passes true m n = (λ e. clash cc, λ h. clash cc)
refused_under Passes false m n = (λ e. clash cc, λ h. clash cc)
refused_under (Fails k) b m n = (λ e. ap Fails cc, λ e. ap Refused cc)

-- ---- the lines looked at for a class

module _ (sheet : Bytes) (c : ℕ) where
  abbrev contains : Bytes → Bool
  contains l = contains_class l c

  held : (n : ℕ) → (class_test sheet c ≡ Held n) ↔ ((sheet_verdict sheet ≡ Passes) × FirstThat contains (lines sheet) n)
  unfolding keeps_class lines_for
  held n =
      let under = held_under (sheet_verdict sheet) (any_of contains (lines sheet)) (up_to_first contains (lines sheet)) n in (
        λ e. let h = under.0 e in (h.0, subst (FirstThat contains (lines sheet)) h.2 (first_that contains (lines sheet) h.1)),
        λ h. let w = first_counted contains (lines sheet) n h.1 in under.1 (h.0, w.0, w.1),
      )

  not_held : (n : ℕ) → (class_test sheet c ≡ NotHeld n)
      ↔ ((sheet_verdict sheet ≡ Passes) × All (λ l. contains_class l c ≡ false) (lines sheet) × (n ≡ length (lines sheet)))
  unfolding keeps_class lines_for
  not_held n =
      let under = not_held_under (sheet_verdict sheet) (any_of contains (lines sheet)) (up_to_first contains (lines sheet)) n in
      let all = none_counted contains (lines sheet) in (
        λ e.
            let h = under.0 e in
            let none = none_that contains (lines sheet) h.1 in
            (h.0, none, sym h.2 ∙ (all none).1),
        λ h. under.1 (h.0, (all h.1).0, (all h.1).1 ∙ sym h.2),
      )

  to_64 : lines_for sheet c ≤ 64
  unfolding lines_for
  to_64 = omega (arith, at_most_all contains (lines sheet), lines_are.at_most_64 sheet)

  some_line : sheet_verdict sheet ≡ Passes
      → (class_test sheet c ≡ Held (lines_for sheet c)) ↔ SomeLine (lines sheet) (λ l. contains_class l c ≡ true)
  unfolding keeps_class
  some_line passes =
      let under = held_under (sheet_verdict sheet) (any_of contains (lines sheet)) (lines_for sheet c) (lines_for sheet c) in
      let says = some_says contains (λ l. contains l ≡ true) (λ l. (λ e. e, λ e. e)) (lines sheet) in
      (λ e. says.0 (under.0 e).1, λ w. under.1 (passes, says.1 w, refl))

-- a line of another kind than 1
never_other : (k : ℕ) → eqb k 1 ≡ false → (l : Bytes) (c : ℕ) → kind l ≡ k → contains_class l c ≡ false
unfolding contains_class
never_other k ne l c e = rw (e, ne)

pub lines_looked_at : LinesLookedAt
lines_looked_at =
    record {
      held = held;
      not_held = not_held;
      refused = λ sheet c n. refused_under (sheet_verdict sheet) (keeps_class sheet c) (lines_for sheet c) n;
      to_64 = to_64;
      some_line = some_line;
      never_kind_2 = never_other 2 refl;
      never_kind_3 = never_other 3 refl;
    }

-- ---- the question whether a class is kept

agrees_under : (v : Verdict) (b : Bool) (n : ℕ) → without_lines (tested_under v b n) ≡ kept_under v b
unfolding without_lines tested_under kept_under
agrees_under Passes true n = refl
agrees_under Passes false n = refl
agrees_under (Fails k) b n = refl

-- their numbers are the same, and so is what both say
pub numbers_under : (v : Verdict) (b : Bool) (n : ℕ)
    → ((tested_numbers (tested_under v b n)).number ≡ (kept_numbers (kept_under v b)).number)
    × ((tested_numbers (tested_under v b n)).kept ≡ (kept_numbers (kept_under v b)).kept)
unfolding tested_numbers kept_numbers tested_under kept_under
numbers_under Passes true n = (refl, refl)
numbers_under Passes false n = (refl, refl)
numbers_under (Fails k) b n = (refl, refl)

count_under : (v : Verdict) (b : Bool) (n : ℕ) → v ≡ Passes → (tested_numbers (tested_under v b n)).lines ≡ n
unfolding tested_numbers tested_under
count_under Passes true n e = refl
count_under Passes false n e = refl
count_under (Fails k) b n e = clash cc

pub says_what_is_kept : SaysWhatIsKept
unfolding las_class_test las_class_kept
says_what_is_kept =
    record {
      agrees = λ sheet c. agrees_under (sheet_verdict sheet) (keeps_class sheet c) (lines_for sheet c);
      numbers_agree = λ sheet c. numbers_under (sheet_verdict sheet) (keeps_class sheet c) (lines_for sheet c);
      numbers_count = λ sheet c. count_under (sheet_verdict sheet) (keeps_class sheet c) (lines_for sheet c);
    }
