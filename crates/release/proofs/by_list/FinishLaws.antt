-- Zeros and the header over what was written, from what each step leaves: no line of this file is about code.
-- Assumes nothing.
use mathlib.Core.Path.{◌≡◌, ◌∙◌}
use Prim.Native.Nat.{ℕ, ◌-◌, ◌*◌}
use mathlib.Core.List.{[]}
use lib.Dec.{lit<}
use lib.ListN.{length, take, drop}
use lib.Seq.{sets}
use Rattle.fields.specs.Bytes.{Bytes, zeros}
use Rattle.fields.proofs.StoreLaws.{tail_part}
use Rattle.points.specs.Raw.{points_of}
use Rattle.lasfile.specs.HeaderFields.{format, record_length}
use Rattle.tally.specs.declared.Tally.{Tally}
use Rattle.tally.specs.Tally.{no_tally, tally_of, tally_more}
use Rattle.tally.proofs.CountLaws.{more_of}
use Rattle.release.specs.declared.head.HeadTotals.{HeadTotals}
use Rattle.release.specs.Heads.{head_bytes}
use Rattle.release.specs.Assembly.{totals_of}
use Rattle.release.specs.ByList.{zeroed_from, finished_file}

-- a tally that begins with no point
pub tally_fresh : (f len count : ℕ) (run : Bytes) (fresh t : Tally) → fresh ≡ no_tally → t ≡ tally_more f fresh (points_of count len run)
    → t ≡ tally_of f (points_of count len run)
unfolding tally_of
tally_fresh f len count run fresh t none e = e ∙ rw none (more_of f [] (points_of count len run) (lit< tt))

pub finished_is : (s out out₁ out₂ : Bytes) (end points records f len : ℕ) (fresh t : Tally) (h : HeadTotals) → f ≡ format s → len ≡ record_length s → fresh ≡ no_tally
    → out₁ ≡ sets out end (zeros (length out))
    → t ≡ tally_more f fresh (points_of points len (take (length out₁ - (end - points * len)) (drop (end - points * len) out₁)))
    → h ≡ totals_of s t records (end - points * len) → out₂ ≡ sets out₁ 0 (head_bytes s h) → out₂ ≡ finished_file s end points records out
unfolding finished_file zeroed_from
finished_is s out out₁ out₂ end points records f len fresh t h at_f at_len none zeroed tallied said over =
    over
    ∙ rw (said, tally_fresh f len points (take (length out₁ - (end - points * len)) (drop (end - points * len) out₁)) fresh t none tallied, tail_part out₁ (end - points * len), at_f, at_len, zeroed)
