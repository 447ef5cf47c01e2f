-- What a keep sheet keeps is what some line says.
-- Assumes nothing.
use mathlib.Core.Path.{◌≡◌, refl, sym, subst, ◌∙◌}
use mathlib.Core.Logic.{◌↔◌}
use Prim.Native.Nat.{ℕ, ◌≤◌}
use native.Mathlib.Omega.{arith}
use borrow.Author.Tests.{leb-true, eqb-true, le-leb, eq-eqb}
use mathlib.Core.Bool.{Bool, true, false, ◌&&◌, ◌||◌, or-true, and-eq-true_iff}
use mathlib.Core.List.{List, [], ◌∷◌, Memᴰ}
use lib.Dec.{T, leb, eqb}
use Rattle.fields.specs.Checks.{Passes}
use Rattle.fields.specs.Lists.{any_of}
use Rattle.fields.specs.Bytes.{Bytes, same}
use Rattle.fields.proofs.ByteLaws.{same→eq, same_refl}
use Rattle.sheet.specs.Sheet.{kind, lowest, highest, user_id, record_id, lines, sheet_verdict}
use Rattle.sheet.proofs.LineLaws.{lines_from_lem, lines_end, verdict_from, verdict_end}
use Rattle.theorems.specs.Sheets.{SomeLine, KeptByLines}
use Rattle.sheet.specs.Keeping.{contains_class, names_record, keeps_class, keeps_record}

-- ---- what a line says

pub all_three : (a b c : Bool) → (a && (b && c)) ≡ true → (a ≡ true) × (b ≡ true) × (c ≡ true)
all_three a b c e =
    let f : (a ≡ true) × ((b && c) ≡ true) = (and-eq-true_iff a (b && c)).0 e in
    let g : (b ≡ true) × (c ≡ true) = (and-eq-true_iff b c).0 f.1 in
    (f.0, g.0, g.1)

-- a line that contains a class is of kind 1, and the class is from its lowest to its highest
contains_class_lem : (l : Bytes) (c : ℕ) → (contains_class l c ≡ true) ↔ ((kind l ≡ 1) × (lowest l ≤ c) × (c ≤ highest l))
unfolding contains_class
contains_class_lem l c = (
  λ e. let t = all_three (eqb (kind l) 1) (leb (lowest l) c) (leb c (highest l)) e in
      (eqb-true (kind l) 1 t.0, leb-true (lowest l) c t.1, leb-true c (highest l) t.2),
  λ h. rw (eq-eqb (kind l) 1 h.0, le-leb (lowest l) c h.1, le-leb c (highest l) h.2),
)

T_true : (b : Bool) → T b → b ≡ true
T_true true t = refl
T_true false t = absurd t

same_eq : (x y : Bytes) → same x y ≡ true → x ≡ y
same_eq x y e = same→eq x y (subst T (sym e) tt)

eq_same : (x y : Bytes) → x ≡ y → same x y ≡ true
eq_same x y e = rw e (T_true (same y y) (same_refl y))

-- a line that names a record is of kind 2, with the record's cut user ID and its ID
names_record_lem : (l user : Bytes) (id : ℕ)
    → (names_record l user id ≡ true) ↔ ((kind l ≡ 2) × (user_id l ≡ user) × (record_id l ≡ id))
unfolding names_record
names_record_lem l user id = (
  λ e. let t = all_three (eqb (kind l) 2) (same (user_id l) user) (eqb (record_id l) id) e in
      (eqb-true (kind l) 2 t.0, same_eq (user_id l) user t.1, eqb-true (record_id l) id t.2),
  λ h. rw (eq-eqb (kind l) 2 h.0, eq_same (user_id l) user h.1, eq-eqb (record_id l) id h.2),
)

-- ---- what is kept: some line says so

module _ (p : Bytes → Bool) (P : Bytes → Type 0) (says : (l : Bytes) → (p l ≡ true) ↔ P l) where
  pick : (l : Bytes) (ls : List Bytes) (b : Bool) → p l ≡ b → (b || any_of p ls) ≡ true
      → (any_of p ls ≡ true → SomeLine ls P) → SomeLine (l ∷ ls) P
  pick l ls true q e later = record { line = l; among = Memᴰ.head refl; so = (says l).0 q }
  pick l ls false q e later = let w : SomeLine ls P = later e in record { line = w.line; among = Memᴰ.tail w.among; so = w.so }

  some_line : (ls : List Bytes) → any_of p ls ≡ true → SomeLine ls P
  unfolding any_of
  some_line [] e = let z : ◌≡◌ {A = ℕ} 0 1 = cc in absurd (omega arith)
  some_line (l ∷ ls) e = pick l ls (p l) refl e (some_line ls)

  line_some : (l : Bytes) (ls : List Bytes) → Memᴰ l ls → p l ≡ true → any_of p ls ≡ true
  unfolding any_of
  line_some l [] x'' e = elim x'' [ ]
  line_some l (x ∷ xs) (Memᴰ.head q) e = rw (← q, e)
  line_some l (x ∷ xs) (Memᴰ.tail m) e = rw (line_some l xs m e) (or-true (p x))

  pub some_says : (ls : List Bytes) → (any_of p ls ≡ true) ↔ SomeLine ls P
  some_says ls = (some_line ls, λ w. line_some w.line ls w.among ((says w.line).1 w.so))

keeps_class_lem : (sheet : Bytes) (c : ℕ)
    → (keeps_class sheet c ≡ true) ↔ SomeLine (lines sheet) (λ l. (kind l ≡ 1) × (lowest l ≤ c) × (c ≤ highest l))
unfolding keeps_class
keeps_class_lem sheet c = some_says (λ l. contains_class l c) (λ l. (kind l ≡ 1) × (lowest l ≤ c) × (c ≤ highest l)) (λ l. contains_class_lem l c) (lines sheet)

keeps_record_lem : (sheet user : Bytes) (id : ℕ)
    → (keeps_record sheet user id ≡ true)
    ↔ SomeLine (lines sheet) (λ l. (kind l ≡ 2) × (user_id l ≡ user) × (record_id l ≡ id))
unfolding keeps_record
keeps_record_lem sheet user id =
    some_says (λ l. names_record l user id) (λ l. (kind l ≡ 2) × (user_id l ≡ user) × (record_id l ≡ id)) (λ l. names_record_lem l user id) (lines sheet)

none : lines [] ≡ []
none = lines_from_lem [] ∙ lines_end 64 [] (omega arith)

empty : (sheet_verdict [] ≡ Passes) × ((c : ℕ) → keeps_class [] c ≡ false)
    × ((user : Bytes) (id : ℕ) → keeps_record [] user id ≡ false)
unfolding keeps_class keeps_record any_of
empty = (verdict_from [] ∙ verdict_end 64 [] (omega arith), λ c. rw none, λ user id. rw none)

pub kept_by_lines : KeptByLines
kept_by_lines = record { class = keeps_class_lem; entry = keeps_record_lem; empty = empty }
