-- The theorems on the lookup by halving, applied: what they ask for is computed, and the rest is their word.
-- Assumes nothing.
use mathlib.Core.Path.{◌≡◌, refl, sym, ◌∙◌, subst}
use native.Mathlib.Omega.{arith}
use lib.Dec.{lit≤, lit<}
use mathlib.Core.List.{[], ◌∷◌}
use Rattle.fields.specs.Bytes.{Bytes, AllBytes}
use Rattle.fields.specs.Checks.{Passes, Fails}
use Rattle.geokeys.specs.GeoKeys.{or_later, first, is_projection, projection_place, payload_at, key_count, entries, key_of, location_of, count_of, offset_of, entry_of, answer_if, either, from_entry, payload_in, directory_of, directory_verdict, entries_in, searched, search_verdict, lookup}
use Rattle.geokeys.specs.Halving.{middle, before, after, one_more, go_on, halving, halve, key_read, read_if, lookup_by_halving}
use Rattle.capi.specs.RecordAnswers.{geokey_numbers, read_numbers}
use Rattle.capi.specs.Interface.{las_geokey_halve}
use Rattle.theorems.specs.Terms.{key_refusal}
use Rattle.theorems.specs.Halving.{Middle, Rising}
use Rattle.theorems.specs.Samples.{file9}
use Rattle.theorems.specs.HalvingInstances.{entry, key_file, risen, fallen, HalvingDemand1Met, HalvesMet, ReadsFewMet, AsThePlainLookupMet, Differs}
use Rattle.theorems.proofs.Samples.{computed}
use Rattle.theorems.proofs.Instances.{all_small, all_bytes}
use Rattle.theorems.proofs.Demand1.{demand1}
use Rattle.theorems.proofs.geokeys.HalvingTheorems.{halves, reads_few, as_the_plain_lookup}

-- where this is unfolded, what is said of lookups is
unfoldable keys_computed : Unit {0}
unfolding or_later first is_projection projection_place payload_at key_count entries key_of location_of count_of offset_of entry_of answer_if either from_entry payload_in directory_of directory_verdict entries_in searched search_verdict lookup
    middle before after one_more go_on halving halve key_read read_if lookup_by_halving
keys_computed = tt

-- ---- what the theorems ask for

risen-searched : searched (key_file risen) ≡ risen
unfolding computed keys_computed
risen-searched = refl

risen_passes : search_verdict (key_file risen) ≡ Passes
unfolding computed keys_computed
risen_passes = refl

risen_bytes : AllBytes (key_file risen)
unfolding computed all_small
risen_bytes = all_bytes (key_file risen) tt

rising : Rising risen
unfolding computed keys_computed
rising = ((lit< tt, (lit< tt, tt)), ((lit< tt, tt), (tt, tt)))

rising_there : Rising (searched (key_file risen))
rising_there = subst Rising (sym risen-searched) rising

key_of_lem : (key_of (entry 1 10) ≡ 1) × (key_of (entry 2 20) ≡ 2) × (key_of (entry 3 30) ≡ 3)
unfolding computed keys_computed
key_of_lem = (refl, refl, refl)

-- ---- the search

in_the_middle : Middle risen (entry 1 10 ∷ []) (entry 2 20) (entry 3 30 ∷ [])
in_the_middle = record { whole = refl; place = refl }

alone : (e : Bytes) → Middle (e ∷ []) [] e []
alone e = record { whole = refl; place = refl }

pub halves_met : HalvesMet
halves_met =
    record {
      middle = in_the_middle;
      equal = halves.equal _ _ _ _ 2 in_the_middle key_of_lem.1;
      larger = halves.larger _ _ _ _ 1 in_the_middle (omega (arith, key_of_lem.1)) ∙ rw (halves.equal _ _ _ _ 1 (alone (entry 1 10)) key_of_lem.0);
      smaller = halves.smaller _ _ _ _ 3 in_the_middle (omega (arith, key_of_lem.1)) ∙ rw (halves.equal _ _ _ _ 3 (alone (entry 3 30)) key_of_lem.2);
    }

pub reads_few_met : ReadsFewMet
reads_few_met =
    record {
      at_most = reads_few.at_most risen 1 2 (lit< tt);
      as_many =
          reads_few.as_many risen 0 1 (lit≤ tt) (omega (arith, key_of_lem.0), (omega (arith, key_of_lem.1), (omega (arith, key_of_lem.2), tt)));
      keys = reads_few.keys (key_file risen) risen_bytes risen_passes;
      at_most_13 = reads_few.at_most_13 (key_file risen) 1 risen_bytes;
    }

-- ---- beside the plain lookup

risen_found : las_geokey_halve (key_file risen) 1 ≡ record { number = 0; location = 0; value = 10; length = 0; reads = 2 }
unfolding computed keys_computed las_geokey_halve read_numbers geokey_numbers
risen_found = refl

no_directory : search_verdict file9 ≡ Fails 40
unfolding computed keys_computed
no_directory = refl

pub as_the_plain_lookup_met : AsThePlainLookupMet
as_the_plain_lookup_met =
    record {
      risen_searched = risen-searched;
      entries_agree = as_the_plain_lookup.entries_agree risen 3 rising;
      there = as_the_plain_lookup.agrees (key_file risen) 1 rising_there;
      numbers = sym (as_the_plain_lookup.numbers_agree (key_file risen) 1 rising_there) ∙ rw risen_found;
      not_there = as_the_plain_lookup.agrees (key_file risen) 4 rising_there;
      before_search = as_the_plain_lookup.before_search file9 1 40 no_directory;
      finds_the_key = as_the_plain_lookup.finds_the_key fallen 1 (entry 1 10) (unfold computed keys_computed in refl);
    }

pub differs : Differs
unfolding computed keys_computed
differs = record { fallen_searched = refl; plainly = refl; by_halving = refl }

-- ---- demand 1

refused : ((las_geokey_halve (key_file fallen) 2).number ≡ 42) × ((las_geokey_halve file9 1).number ≡ 40)
unfolding computed keys_computed las_geokey_halve read_numbers geokey_numbers
refused = (refl, refl)

one_read : (halve (searched (key_file fallen)) 2).reads ≡ 1
unfolding computed keys_computed
one_read = refl

pub halving_demand1_met : HalvingDemand1Met
unfolding key_refusal
halving_demand1_met =
    record {
      zeros_beside = demand1.zeros_beside.geokey_halve (key_file fallen) 2 41 refused.0 ∙ rw one_read;
      none_beside = demand1.zeros_beside.geokey_halve file9 1 39 refused.1;
      number = ((demand1.each_number.geokey_halve (key_file fallen) 2).refuses 41).0 refused.0;
    }
