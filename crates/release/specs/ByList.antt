-- What a release by a list is put together from; no public contract cites these.
-- Assumes nothing.
use Rattle.std.specs.Prelude.{◌≡◌, ℕ, ◌-◌, ◌*◌, ◌≤◌, List, length, drop}
use Rattle.std.proofs.lemmas.List.Edits.{sets}
use Rattle.fields.specs.Bytes.{Bytes, zeros}
use Rattle.fields.specs.Checks.{Passes}
use Rattle.lasfile.specs.HeaderFields.{format, record_length}
use Rattle.lasfile.specs.FileChecks.{file_verdict}
use Rattle.publicpart.specs.Public.{public_of}
use Rattle.publicpart.specs.Release.{room_or, Answer}
use Rattle.publicpart.specs.Cutting.{kept_together, cutting_list, release_by_list, Listed}
use Rattle.publicpart.specs.declared.Span.{Span}
use Rattle.publicpart.specs.Cutting as listed
use Rattle.points.specs.Raw.{points_of}
use Rattle.tally.specs.Tally.{tally_of}
use Rattle.release.specs.Assembly.{totals_of}
use Rattle.release.specs.Heads.{head_bytes}

-- ---- what is decided before the first write, of output and list by their lengths alone

abbrev pub DecidesList : Bytes → Bytes → ℕ → Listed → Type 0
DecidesList sheet s n r = (list : List Span) → length list ≡ n → r ≡ (cutting_list sheet s list).0

abbrev pub lines_listed : Listed → ℕ
lines_listed (listed.Lines n) = n
lines_listed (listed.Refused n) = 0

-- a file that passes, and the number of its kept records and points
abbrev pub Counted : Bytes → Bytes → ℕ → Type 0
Counted sheet s n = (file_verdict s ≡ Passes) × (n ≡ kept_together (public_of sheet s))

abbrev pub DecidesRoom : Bytes → Bytes → ℕ → Answer → Type 0
DecidesRoom sheet s room r = (out : Bytes) → length out ≡ room → r ≡ (room_or (public_of sheet s) out).0

abbrev pub Decides : Bytes → Bytes → ℕ → ℕ → Answer → Type 0
Decides sheet s room n r =
    (out : Bytes) (list : List Span) → length out ≡ room → length list ≡ n
    → r ≡ (release_by_list sheet s out list).0.0

-- ---- zeros and the header

-- a file of n bytes that ends with so many points has room in an output
pub record FinishFits (s : Bytes) (n points room : ℕ) : Type 0 where
  pub ends : points * record_length s ≤ n
  pub within : n ≤ room

-- zeros behind n bytes
unfoldable pub zeroed_from : ℕ → Bytes → Bytes
zeroed_from n out = sets out n (zeros (length out))

unfoldable pub finished_file : Bytes → ℕ → ℕ → ℕ → Bytes → Bytes
finished_file s n points records out =
    let start : ℕ = n - points * record_length s in
    let zeroed : Bytes = zeroed_from n out in
    sets zeroed 0
    (head_bytes s (totals_of s (tally_of (format s) (points_of points (record_length s) (drop start zeroed))) records start))
