-- Laws of a header that is written: its length, and each field read back at its place.
-- Assumes nothing.
use mathlib.Core.Path.{◌≡◌, refl, ap, ◌∙◌}
use Prim.Native.Nat.{ℕ, ◌*◌, ◌≤◌, ◌<◌}
use mathlib.Core.List.{List, [], ◌++◌}
use lib.ListN.{length, get_or}
use Rattle.fields.specs.Lists.{total}
use Rattle.fields.specs.Bytes.{Bytes, part, join, start, Fit, numbers_bytes}
use Rattle.fields.proofs.ByteLaws.{length-bytes_of, field_back, length-join}
use Rattle.fields.proofs.TextLaws.{length-padded}
use Rattle.fields.proofs.arrays.NumberLaws.{length_numbers}
use Rattle.lasfile.specs.HeaderFields.{header_block}
use Rattle.publicpart.specs.Head.{Head, head_widths, head_fields}

-- a pair, for long chains of them
infixr 3 ◌▸◌
abbrev ◌▸◌ : {A B : Type 0} → A → B → A × B
a ▸ b = (a, b)

-- what a header says fits its fields
pub record Fitting (h : Head) : Type 0 where
  pub ids : length h.carried.ids ≡ 20
  pub system : length h.carried.system ≤ 32
  pub software : length h.carried.software ≤ 32
  pub bins : length h.bins ≡ 5
  pub scaling : length h.carried.scaling ≡ 48
  pub bounds : length h.bounds ≡ 6

numbers_fit : (w n : ℕ) (ns : List ℕ) → length ns ≡ n → length (numbers_bytes w ns) ≡ n * w
numbers_fit w n ns e = length_numbers w ns ∙ ap (λ (m : ℕ). m * w) e

module _ (h : Head) (f : Fitting h) where
  pub head_fits : Fit head_widths (head_fields h)
  head_fits =
      refl
      ▸ f.ids
      ▸ refl
      ▸ length-padded 32 h.carried.system f.system
      ▸ length-padded 32 h.carried.software f.software
      ▸ length-bytes_of 2 _
      ▸ length-bytes_of 2 _
      ▸ length-bytes_of 2 _
      ▸ length-bytes_of 4 _
      ▸ length-bytes_of 4 _
      ▸ length-bytes_of 1 _
      ▸ length-bytes_of 2 _
      ▸ length-bytes_of 4 _
      ▸ numbers_fit 4 5 h.bins f.bins
      ▸ f.scaling
      ▸ numbers_fit 8 6 h.bounds f.bounds
      ▸ tt

  pub length_head : length (join (head_fields h)) ≡ header_block
  length_head = unfold total in length-join head_widths (head_fields h) head_fits

  -- field i, whatever follows the header
  pub head_field : (rest : Bytes) (i : ℕ) → i < 16 → part (start i head_widths) (get_or head_widths i 0) (join (head_fields h) ++ rest) ≡ get_or (head_fields h) i []
  head_field rest i l = field_back head_widths (head_fields h) rest i head_fits l
