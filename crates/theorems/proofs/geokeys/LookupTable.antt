-- The number of a lookup is that of one table, whatever the search that found the entry.
-- Assumes nothing.
use mathlib.Core.Path.{◌≡◌, refl, sym, ap, ◌∙◌}
use Prim.Native.Nat.{ℕ, suc, ◌≤◌, ◌<◌}
use native.Mathlib.Omega.{arith}
use mathlib.Core.Bool.{Bool, true, false}
use mathlib.Core.List.{List, [], ◌∷◌, ◌++◌}
use mathlib.Core.Option.{Option, none, some}
use lib.Dec.{eqb}
use Rattle.fields.specs.Bytes.{Bytes}
use Rattle.fields.specs.Checks.{Check, fails, fail_if, first_failing, then, number_of, not_so, Verdict, Passes, Fails}
use Rattle.fields.proofs.CheckLaws.{Numbers, both_numbers, given_among, Without}
use Rattle.lasfile.specs.FileChecks.{file_checks, file_verdict}
use Rattle.geokeys.specs.GeoKeys.{directory_checks, entry_checks, double_checks, text_checks, answer_if, either, double_in, text_in, in_parameters, from_entry, location_of, payload_at, projection_place, directory_of, directory_verdict, search_verdict, GeoKey, Value}
use Rattle.capi.specs.RecordAnswers.{geokey_numbers}
use Rattle.theorems.specs.Tables.{is_some, chosen, value_checks, parameter_checks, entry_table, key_table, directory_table, search_checks}
use Rattle.theorems.specs.ZeroWhereAccepted.{is_zero}
use Rattle.theorems.proofs.TableLaws.{joined, without_both, fails_with, none_zero}

-- the number of an answer is that of a table
abbrev OfTable : GeoKey → List Check → Type 0
OfTable g cs = (geokey_numbers g).number ≡ number_of (first_failing cs)

behind : (cs ds : List Check) (g : GeoKey) → OfTable g ds → OfTable (answer_if (first_failing cs) g) (cs ++ ds)
behind cs ds g e = decide (first_failing cs) ∙ ap number_of (sym (joined cs ds))
  where
    decide : (v : Verdict) → (geokey_numbers (answer_if v g)).number ≡ number_of (then v (first_failing ds))
    decide Passes = unfold answer_if then in e
    decide (Fails n) = unfold answer_if then geokey_numbers number_of in refl

of_chosen : (b : Bool) (g h : GeoKey) (cs ds : List Check) → OfTable g cs → OfTable h ds
    → OfTable (either b g h) (chosen b cs ds)
unfolding either chosen
of_chosen true g h cs ds x y = x
of_chosen false g h cs ds x y = y

-- one table by itself, and what it lets through has the number 0
one_table : (cs : List Check) (g : GeoKey) → (geokey_numbers g).number ≡ 0 → OfTable (answer_if (first_failing cs) g) cs
one_table cs g e = decide (first_failing cs)
  where
    decide : (v : Verdict) → (geokey_numbers (answer_if v g)).number ≡ number_of v
    decide Passes = unfold answer_if number_of in e
    decide (Fails n) = unfold answer_if geokey_numbers number_of in refl

-- a first check of what was found
found_first : (n : ℕ) (cs : List Check) (g : GeoKey) → OfTable g cs → OfTable g ((n, not_so true) ∷ cs)
unfolding first_failing fail_if fails
found_first n cs g e = e

double_table : (entry parameters : Bytes) → OfTable (double_in entry parameters) (double_checks entry parameters)
unfolding double_in geokey_numbers
double_table entry parameters = one_table (double_checks entry parameters) _ refl

text_table : (entry : Bytes) (at : ℕ) (parameters : Bytes)
    → OfTable (text_in entry at parameters) (text_checks entry parameters)
unfolding text_in geokey_numbers
text_table entry at parameters = one_table (text_checks entry parameters) _ refl

parameters_table : (s entry : Bytes) (place : Option ℕ)
    → OfTable (in_parameters s entry place) (parameter_checks s entry place)
unfolding in_parameters parameter_checks value_checks is_some
parameters_table s entry none = unfold geokey_numbers number_of first_failing fail_if fails in refl
parameters_table s entry (some at) =
    let parameters : Bytes = payload_at s at in
    found_first 45 _ _
    (of_chosen (eqb (location_of entry) 34736) (double_in entry parameters) (text_in entry at parameters) _ _
    (double_table entry parameters) (text_table entry at parameters))

value_table : (v : ℕ) → OfTable (Value v) []
unfolding geokey_numbers number_of first_failing
value_table v = refl

entry_table_lem : (s : Bytes) (entry : Option Bytes) → OfTable (from_entry s entry) (key_table s entry)
unfolding from_entry key_table entry_table is_some
entry_table_lem s none = unfold geokey_numbers number_of first_failing fail_if fails in refl
entry_table_lem s (some entry) =
    found_first 42 _ _
    (behind (entry_checks entry) _ _
    (of_chosen (eqb (location_of entry) 0) _ _ [] _ (value_table _) (parameters_table s entry (projection_place s (location_of entry)))))

-- the checks before a search are those of the file, and then 40 and 41
answer_then : (v w : Verdict) (g : GeoKey) → answer_if (then v w) g ≡ answer_if v (answer_if w g)
unfolding then answer_if
answer_then Passes w g = refl
answer_then (Fails n) w g = refl

directory_table_lem : (s : Bytes) (entry directory : Option Bytes)
    → OfTable (answer_if (directory_verdict directory) (from_entry s entry)) ((40, not_so (is_some directory)) ∷ (directory_table directory ++ key_table s entry))
unfolding directory_verdict directory_table is_some
directory_table_lem s entry none = unfold answer_if geokey_numbers number_of first_failing fail_if fails in refl
directory_table_lem s entry (some directory) = found_first 40 _ _ (behind (directory_checks directory) _ _ (entry_table_lem s entry))

-- whatever the search that found the entry
pub looked_up : (s : Bytes) (entry : Option Bytes)
    → (geokey_numbers (answer_if (search_verdict s) (from_entry s entry))).number ≡ number_of (first_failing (file_checks s ++ search_checks s entry))
unfolding search_verdict search_checks file_verdict
looked_up s entry =
    rw (answer_then (first_failing (file_checks s)) (directory_verdict (directory_of s)) (from_entry s entry))
    (behind (file_checks s) _ _ (directory_table_lem s entry (directory_of s)))

-- ---- the numbers of the table: 40 and 41 before the search, 42 to 46 by the entry

chosen_numbers : (P : ℕ → Type 0) (b : Bool) (cs ds : List Check) → Numbers P cs → Numbers P ds → Numbers P (chosen b cs ds)
unfolding chosen
chosen_numbers P true cs ds h k = h
chosen_numbers P false cs ds h k = k

value_numbers : (s entry : Bytes) (place : Option ℕ) → Numbers (λ n. 42 ≤ n) (value_checks s entry place)
unfolding value_checks
value_numbers s entry none = tt
value_numbers s entry (some at) =
    chosen_numbers (λ n. 42 ≤ n) (eqb (location_of entry) 34736) _ _ (omega arith, tt) (omega arith, tt)

entry_numbers : (s : Bytes) (entry : Option Bytes) → Numbers (λ n. 42 ≤ n) (key_table s entry)
unfolding key_table entry_table parameter_checks
entry_numbers s none = (omega arith, tt)
entry_numbers s (some entry) =
    let place : Option ℕ = projection_place s (location_of entry) in (
      omega arith,
      both_numbers (λ n. 42 ≤ n) (entry_checks entry) (chosen (eqb (location_of entry) 0) [] (parameter_checks s entry place)) (omega arith, (omega arith, tt))
          (chosen_numbers (λ n. 42 ≤ n) (eqb (location_of entry) 0) [] (parameter_checks s entry place) tt (omega arith, value_numbers s entry place)),
    )

directory_above : (directory : Option Bytes) → Without 0 (directory_table directory)
unfolding directory_table Without is_zero
directory_above none = tt
directory_above (some directory) = (refl, tt)

pub search_above : (s : Bytes) (entry : Option Bytes) → Without 0 (search_checks s entry)
unfolding search_checks Without is_zero
search_above s entry = (
  refl,
  without_both 0 (directory_table (directory_of s)) (key_table s entry) (directory_above (directory_of s)) (none_zero 42 (key_table s entry) (omega arith) (entry_numbers s entry)),
)

-- ---- which numbers have entries read beside them

-- a refusal by the entry is from 42 on
pub by_entry : (s : Bytes) (entry : Option Bytes) (n : ℕ) → (geokey_numbers (from_entry s entry)).number ≡ suc n → 42 ≤ suc n
by_entry s entry n e = given_among (λ k. 42 ≤ k) (key_table s entry) (entry_numbers s entry) (suc n) (fails_with _ n (sym (entry_table_lem s entry) ∙ e))

directory_low : (directory : Option Bytes) (n : ℕ) → directory_verdict directory ≡ Fails n → n < 42
unfolding directory_verdict
directory_low none n e = let same : 40 ≡ n = cc in omega (arith, same)
directory_low (some directory) n e = given_among (λ k. k < 42) (directory_checks directory) (omega arith, tt) n e

-- one before the search is below 42
pub before_search : (s : Bytes) (n : ℕ) → search_verdict s ≡ Fails n → n < 42
unfolding search_verdict file_verdict
before_search s n e = decide (first_failing (file_checks s)) refl e
  where
    file_low : Numbers (λ k. k < 42) (file_checks s)
    file_low = (omega arith, (omega arith, (omega arith, (omega arith, (omega arith, (omega arith, (omega arith, (omega arith, (omega arith, (omega arith, tt))))))))))

    decide : (v : Verdict) → first_failing (file_checks s) ≡ v → then v (directory_verdict (directory_of s)) ≡ Fails n → n < 42
    decide (Fails m) f g = given_among (λ k. k < 42) (file_checks s) file_low n (f ∙ unfold then in g)
    decide Passes f g = directory_low (directory_of s) n (unfold then in g)
