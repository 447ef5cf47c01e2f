-- The theorems on the cutting list and the release by it, applied to sample P9's file: what they ask for is computed,
-- and the rest is their word.
-- Assumes nothing.
use mathlib.Core.Path.{◌≡◌, refl, ◌∙◌}
use mathlib.Core.Logic.{◌↔◌}
use native.Mathlib.Omega.{arith}
use mathlib.Core.List.{[], ◌∷◌}
use lib.Dec.{lit≤, lit<}
use lib.ListN.{length}
use Rattle.fields.specs.Bytes.{zeros}
use Rattle.publicpart.specs.Public.{public_of}
use Rattle.publicpart.specs.Release.{Released}
use Rattle.publicpart.specs.Cutting.{span, cutting_lines, fill}
use Rattle.theorems.specs.Terms.{enough}
use Rattle.theorems.specs.Demand3.{Same}
use Rattle.theorems.specs.ByList.{by_list, AcceptedByList}
use Rattle.theorems.specs.Samples.{sheet3, used, file9}
use Rattle.theorems.specs.Instances.{other9, filled, sheet_both, unfilled}
use Rattle.theorems.specs.ListInstances.{CuttingListMet, ByListMet}
use Rattle.theorems.proofs.Samples.{computed}
use Rattle.theorems.proofs.Instances.{lists_computed, good9, other_good9, sheet_passes9, one_public_part, needed9}
use Rattle.theorems.proofs.CuttingList.{in_order}
use Rattle.theorems.proofs.ByList.{by_list_lem, demand3_by_list}

lines9 : cutting_lines sheet_both file9 ≡ span 281 10 ∷ span 291 28 ∷ []
unfolding computed lists_computed
lines9 = refl

two9 : length (cutting_lines sheet_both file9) ≡ 2
two9 = rw lines9

pub cutting_list_met : CuttingListMet
cutting_list_met =
    record {
      lines = lines9;
      inside = in_order.inside sheet_both file9 good9.passes 1 (omega (arith, two9));
      rising = in_order.rising sheet_both file9 good9.passes 0 1 (lit≤ tt) (omega (arith, two9));
      apart = in_order.apart sheet_both file9 good9.passes 0 1 (lit< tt) (omega (arith, two9));
    }

enough9 : (enough sheet_both file9 ≡ 2) × (enough sheet3 file9 ≡ 1) × (enough sheet3 other9 ≡ 1)
unfolding computed
enough9 = (refl, refl, refl)

-- accepted, by lists of three lines and of one
accepted_both9 : (by_list sheet_both file9 (used 400) (unfilled 3)).0 ≡ Released 319 1 1
unfolding computed lists_computed
accepted_both9 = refl

accepted9 : AcceptedByList sheet3 file9 (filled 7) (unfilled 1) 255 1 0
unfolding computed lists_computed
accepted9 = record { bytes = good9.bytes; answer = refl }

exactly9 : Same (by_list sheet3 file9 (filled 7) (unfilled 1)) (by_list sheet3 other9 (filled 9) (unfilled 2)) ↔ (public_of sheet3 file9 ≡ public_of sheet3 other9)
exactly9 =
    demand3_by_list.exactly sheet3 file9 other9 (filled 7) (filled 9) (unfilled 1) (unfilled 2) sheet_passes9 good9 other_good9 refl (omega (arith, needed9.0)) (omega (arith, needed9.1))
    (omega (arith, enough9.1)) (omega (arith, enough9.2))

pub by_list_met : ByListMet
by_list_met =
    record {
      same = by_list_lem.same sheet_both file9 (used 400) (unfilled 2) (λ _ _. omega (arith, enough9.0));
      listed = by_list_lem.listed sheet_both file9 (used 400) (unfilled 3) 319 1 1 accepted_both9 ∙ rw lines9 (unfold fill in refl);
      exactly = exactly9.1 one_public_part;
      one_public_part = exactly9.0 (exactly9.1 one_public_part);
      short =
          rw needed9.0 at
          (demand3_by_list.short sheet3 file9 other9 (used 254) (zeros 254) (unfilled 1) (unfilled 2) sheet_passes9 good9 other_good9 refl (omega (arith, enough9.1)) (omega (arith, enough9.2)) one_public_part
          (omega (arith, needed9.0)));
      again = demand3_by_list.again sheet3 file9 (filled 7) (used 400) (unfilled 1) (unfilled 2) 255 1 0 accepted9 (lit≤ tt) (omega (arith, enough9.1));
      again_same = demand3_by_list.again_same sheet3 file9 (filled 7) (filled 9) (unfilled 1) (unfilled 1) 255 1 0 accepted9 refl (omega (arith, enough9.1));
    }
