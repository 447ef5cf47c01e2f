-- Passes over the records of a file that a sheet keeps: what is known where some are still to walk.
-- Assumes nothing.
use mathlib.Core.Path.{◌≡◌, sym, ap, ◌∙◌}
use mathlib.Core.Bool.{true, false}
use Prim.Native.Nat.{ℕ, ◌+◌, ◌*◌, ◌^◌, ◌<◌}
use native.Mathlib.Omega.{arith}
use mathlib.Core.List.{List, [], ◌∷◌, ◌++◌, map}
use lib.ListN.{length}
use lib.Seq.{sets}
use Rattle.fields.specs.Lists.{kept, total}
use Rattle.fields.specs.Bytes.{Bytes, join}
use Rattle.fields.proofs.ListLaws.{kept_here, kept_past}
use Rattle.fields.proofs.StoreLaws.{sets-append}
use Rattle.lasfile.specs.Records.{Record, record_of, counted, record_bytes, written_length, records_bytes}
use Rattle.lasfile.proofs.vlr.PlacedLaws.{said, walk_is}
use Rattle.lasfile.specs.HeaderFields.{header_block}
use Rattle.publicpart.specs.Public.{sheet_keeps, public_of}
use Rattle.publicpart.proofs.PublicLaws.{contents_records, public_records}
use Rattle.release.specs.declared.vlrs.KeptRecords.{KeptRecords}
use Rattle.release.specs.KeptRecords.{measured}
use Rattle.release.proofs.vlrs.RecordPartLaws.{length-written}

-- records of a file, as they are walked
abbrev pub Walked : Type 0
Walked = List (ℕ × Bytes)

-- a sum that stays low, since a record takes less than 2 ^ 17 bytes and few are left
abbrev Low : ℕ → Walked → Type 0
Low n left = n + length left * 2 ^ 17 < 2 ^ 51

-- ---- the records still to walk

module _ (sheet : Bytes) where
  abbrev pub rest : Walked → List Record
  rest left = kept (sheet_keeps sheet) (map said left)

  pub rest_all : (s : Bytes) → rest (counted s) ≡ (public_of sheet s).records
  rest_all s = sym (public_records sheet s ∙ ap (kept (sheet_keeps sheet)) (contents_records s ∙ walk_is s))

  -- the record at hand is kept, or passed over
  module _ (place : ℕ) (v : Bytes) (left later : Walked) (here : left ≡ (place, v) ∷ later) where
    rest_kept : sheet_keeps sheet (record_of 2 v) ≡ true → rest left ≡ record_of 2 v ∷ rest later
    rest_kept e = ap rest here ∙ kept_here (sheet_keeps sheet) (record_of 2 v) _ e

    rest_past : sheet_keeps sheet (record_of 2 v) ≡ false → rest left ≡ rest later
    rest_past e = ap rest here ∙ kept_past (sheet_keeps sheet) (record_of 2 v) _ e

-- ---- measuring

pub record Measuring (sheet s : Bytes) (left : Walked) (count end : ℕ) : Type 0 where
  pub counted : count + length (rest sheet left) ≡ length (public_of sheet s).records
  pub summed : end + total (written_length 2) (rest sheet left) ≡ header_block + total (written_length 2) (public_of sheet s).records
  pub few : count + length left < 2 ^ 34
  pub low : Low end left

pub measuring_begins : (sheet s : Bytes) (left : Walked) → left ≡ counted s → length left < 2 ^ 33 → Measuring sheet s left 0 header_block
measuring_begins sheet s left e few =
    let all : rest sheet left ≡ (public_of sheet s).records = ap (rest sheet) e ∙ rest_all sheet s in
    record {
      counted = omega (arith, ap length all);
      summed = omega (arith, ap (total (written_length 2)) all);
      few = omega arith;
      low = omega arith;
    }

module _ (sheet s : Bytes) (place : ℕ) (v : Bytes) (left later : Walked) (here : left ≡ (place, v) ∷ later) (count end : ℕ) (m : Measuring sheet s left count end) where
  pub measuring_kept : (size : ℕ) → size ≡ written_length 2 (record_of 2 v) → size < 2 ^ 17 → sheet_keeps sheet (record_of 2 v) ≡ true
      → Measuring sheet s later (count + 1) (end + size)
  unfolding total
  measuring_kept size long short e =
      let two = rest_kept sheet place v left later here e in
      let one = ap length here in
      record {
        counted = omega (arith, m.counted, ap length two);
        summed = omega (arith, m.summed, ap (total (written_length 2)) two, long);
        few = omega (arith, m.few, one);
        low = omega (arith, m.low, one, short);
      }

  pub measuring_past : sheet_keeps sheet (record_of 2 v) ≡ false → Measuring sheet s later count end
  measuring_past e =
      let same = rest_past sheet place v left later here e in
      let one = ap length here in
      record {
        counted = omega (arith, m.counted, ap length same);
        summed = omega (arith, m.summed, ap (total (written_length 2)) same);
        few = omega (arith, m.few, one);
        low = omega (arith, m.low, one);
      }

pub measuring_ends : (sheet s : Bytes) (left : Walked) (count end : ℕ) → left ≡ [] → Measuring sheet s left count end
    → ◌≡◌ {A = KeptRecords} (record { count = count; end = end }) (measured (public_of sheet s).records)
unfolding measured total kept
measuring_ends sheet s left count end h m =
    let none = ap (rest sheet) h in
    let counted : count ≡ length (public_of sheet s).records = omega (arith, m.counted, ap length none) in
    let summed : end ≡ header_block + total (written_length 2) (public_of sheet s).records = omega (arith, m.summed, ap (total (written_length 2)) none) in
    λ i. record { count = counted i; end = summed i }

-- ---- copying

pub record Copying (sheet s out₀ out : Bytes) (left : Walked) (to : ℕ) : Type 0 where
  pub whole : sets out to (records_bytes 2 (rest sheet left)) ≡ sets out₀ header_block (records_bytes 2 (public_of sheet s).records)
  pub low : Low to left

pub copying_begins : (sheet s out : Bytes) (left : Walked) → left ≡ counted s → length left < 2 ^ 33 → Copying sheet s out out left header_block
copying_begins sheet s out left e few =
    record {
      whole = ap (λ (rs : List Record). sets out header_block (records_bytes 2 rs)) (ap (rest sheet) e ∙ rest_all sheet s);
      low = omega arith;
    }

module _ (sheet s out₀ out : Bytes) (place : ℕ) (v : Bytes) (left later : Walked) (here : left ≡ (place, v) ∷ later) (to : ℕ) (c : Copying sheet s out₀ out left to) where
  pub copying_kept : (size : ℕ) → size ≡ written_length 2 (record_of 2 v) → size < 2 ^ 17
      → (next : Bytes) → next ≡ sets out to (record_bytes 2 (record_of 2 v)) → sheet_keeps sheet (record_of 2 v) ≡ true
      → Copying sheet s out₀ next later (to + size)
  unfolding records_bytes join
  copying_kept size is short next e k =
      let r : Record = record_of 2 v in
      let others : List Record = rest sheet later in
      let long : length (record_bytes 2 r) ≡ size = length-written v ∙ sym is in
      let step : sets out to (record_bytes 2 r ++ records_bytes 2 others) ≡ sets next (to + size) (records_bytes 2 others) =
      sets-append out to (record_bytes 2 r) (records_bytes 2 others) ∙ rw (long, ← e) in
      record {
        whole = sym step ∙ ap (λ (rs : List Record). sets out to (records_bytes 2 rs)) (sym (rest_kept sheet place v left later here k)) ∙ c.whole;
        low = omega (arith, c.low, ap length here, short);
      }

  pub copying_past : sheet_keeps sheet (record_of 2 v) ≡ false → Copying sheet s out₀ out later to
  copying_past k =
      record {
        whole = ap (λ (rs : List Record). sets out to (records_bytes 2 rs)) (sym (rest_past sheet place v left later here k)) ∙ c.whole;
        low = omega (arith, c.low, ap length here);
      }

pub copying_ends : (sheet s out₀ out : Bytes) (left : Walked) (to : ℕ) → left ≡ [] → Copying sheet s out₀ out left to
    → out ≡ sets out₀ header_block (records_bytes 2 (public_of sheet s).records)
unfolding records_bytes join kept
copying_ends sheet s out₀ out left to h c = sym (ap (λ (rs : List Record). sets out to (records_bytes 2 rs)) (ap (rest sheet) h)) ∙ c.whole
