-- A search for the first line that passes a test: one turn of it, and where it ends.
-- Assumes nothing.
use mathlib.Core.Path.{◌≡◌, refl, ◌∙◌, ap}
use Prim.Native.Nat.{ℕ, suc, ◌+◌, ◌≤◌}
use native.Mathlib.Omega.{arith}
use mathlib.Core.Bool.{Bool, true, false}
use mathlib.Core.List.{List, [], ◌∷◌}
use lib.ListN.{length}
use Rattle.fields.specs.Lists.{any_of}
use Rattle.fields.specs.Bytes.{Bytes}
use Rattle.sheet.specs.Keeping.{up_to_first, search_of}
use Rattle.sheet.proofs.FirstLaws.{first_passes, first_fails, no_lines}

-- of all lines n were looked at, none of them passes, and the others are left
pub record NoneYet (p : Bytes → Bool) (all : List Bytes) (n : ℕ) (left : List Bytes) : Type 0 where
  pub few : n + length left ≤ 64
  pub found : any_of p all ≡ any_of p left
  pub counted : up_to_first p all ≡ n + up_to_first p left

module _ (p : Bytes → Bool) (all : List Bytes) where
  searched : (found : Bool) (n : ℕ) → any_of p all ≡ found → up_to_first p all ≡ n → search_of p all ≡ record { found = found; lines = n }
  unfolding search_of
  searched found n e f = λ i. record { found = e i; lines = f i }

  pub begin : (left : List Bytes) → left ≡ all → length all ≤ 64 → NoneYet p all 0 left
  begin left e few = rw e record { few = omega (arith, few); found = refl; counted = omega arith }

  module _ (n : ℕ) (left : List Bytes) (h : NoneYet p all n left) where
    pub end : left ≡ [] → search_of p all ≡ record { found = false; lines = n }
    end e =
        let z = no_lines p left e in
        searched false n (h.found ∙ z.0) (omega (arith, h.counted, z.1))

    module _ (l : Bytes) (behind : List Bytes) (split : left ≡ l ∷ behind) where
      pub here : p l ≡ true → search_of p all ≡ record { found = true; lines = n + 1 }
      here e =
          let z = first_passes p l behind e in
          let c : up_to_first p left ≡ 1 = ap (up_to_first p) split ∙ z.1 in
          searched true (n + 1) (h.found ∙ ap (any_of p) split ∙ z.0) (omega (arith, h.counted, c))

      pub next : p l ≡ false → NoneYet p all (n + 1) behind
      next e =
          let z = first_fails p l behind e in
          let c : up_to_first p left ≡ suc (up_to_first p behind) = ap (up_to_first p) split ∙ z.1 in
          let one : length left ≡ suc (length behind) = ap length split in
          record {
            few = omega (arith, h.few, one);
            found = h.found ∙ ap (any_of p) split ∙ z.0;
            counted = omega (arith, h.counted, c);
          }
