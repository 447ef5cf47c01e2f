-- Laws of a header's bytes: there are none of a source shorter than a header, and else they are the fields at their
-- places.
-- Assumes nothing.
use mathlib.Core.Path.{◌≡◌, refl, ap, ◌∙◌}
use Prim.Native.Nat.{◌≤◌, ◌<◌}
use native.Mathlib.Omega.{arith}
use borrow.Author.Tests.{le-leb, lt-leb}
use mathlib.Core.List.{[]}
use lib.ListN.{length}
use lib.Seq.{sets}
use Rattle.fields.specs.Lists.{list_if}
use Rattle.fields.specs.Bytes.{Bytes, part, join, numbers_bytes}
use Rattle.fields.proofs.ByteLaws.{length_part}
use Rattle.fields.proofs.TextLaws.{held}
use Rattle.lasfile.specs.HeaderFields.{header_block}
use Rattle.publicpart.specs.Bounds.{bound_numbers}
use Rattle.publicpart.specs.Head.{head_widths, head_fields}
use Rattle.publicpart.proofs.PublicLaws.{carried_ids, carried_system, carried_software, carried_scaling}
use Rattle.publicpart.proofs.HeadLaws.{Fitting, head_fits}
use Rattle.tally.specs.Bins.{bin_numbers}
use Rattle.release.specs.declared.head.HeadTotals.{HeadTotals}
use Rattle.release.specs.Heads.{head_with, head_bytes, fields_stored}
use Rattle.release.proofs.head.FieldStores.{stores-join}

pub no_head : (s : Bytes) (t : HeadTotals) → length s < header_block → head_bytes s t ≡ []
unfolding head_bytes list_if
no_head s t h = rw (lt-leb header_block (length s) h)

-- ---- a source that is long enough

module _ (s : Bytes) (t : HeadTotals) (long : header_block ≤ length s) where
  pub whole_head : head_bytes s t ≡ join (head_fields (head_with s t))
  unfolding head_bytes list_if
  whole_head = rw (le-leb header_block (length s) long)

  fitting : Fitting (head_with s t)
  unfolding head_with bin_numbers bound_numbers
  fitting =
      record {
        ids = ap length (carried_ids s) ∙ length_part 4 20 s (omega arith);
        system = rw (carried_system s) (held 26 32 s).short;
        software = rw (carried_software s) (held 58 32 s).short;
        bins = refl;
        scaling = ap length (carried_scaling s) ∙ length_part 131 48 s (omega arith);
        bounds = refl;
      }

  -- the four groups of fields, stored one after the other
  pub head_stored : (d front middle scaling scaled out : Bytes) → front ≡ fields_stored 0 5 (head_with s t) d → middle ≡ fields_stored 5 9 (head_with s t) front
      → scaling ≡ part 131 48 s → scaled ≡ sets middle 131 scaling → out ≡ sets scaled 179 (numbers_bytes 8 (bound_numbers t.bounds)) → out ≡ sets d 0 (head_bytes s t)
  unfolding head_with
  head_stored d front middle scaling scaled out by_front by_middle read by_scaling by_bounds =
      rw (by_bounds, by_scaling, by_middle, by_front, read, ← carried_scaling s, whole_head)
      (stores-join head_widths (head_fields (head_with s t)) d 0 (head_fits (head_with s t) fitting))
