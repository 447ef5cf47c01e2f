-- `head::put_front` meets its contract. Assumes nothing.
use mathlib.Core.Path.{sym, ap, ◌∙◌, refl}
use lib.ListN.{take}
use Rattle.fields.specs.Text.{padded}
use Rattle.publicpart.specs.Head.{head_widths, head_fields}
use Rattle.publicpart.proofs.PublicLaws.{carried_ids, carried_system, carried_software}
use Rattle.release.specs.Heads.{head_with}
use Rattle.release.proofs.head.FieldStores.{◌▸◌, all_stored}
use Rattle.release.proofs.head.put_front.Goals as goal

pub returns : goal.returns
unfolding head_with
returns c t =
    let a = c.args in
    let s = a.source.now in
    all_stored (take 5 head_widths) (take 5 (head_fields (head_with s t))) a.out.now 0 _ (
    (c.copy.ensures, refl)
    ▸ (c.copy-2.ensures, c.part_at.ensures ∙ sym (carried_ids s))
    ▸ (c.copy-3.ensures, refl)
    ▸ (c.put_text.ensures, ap (padded 32) (sym (carried_system s)))
    ▸ (c.put_text-2.ensures, ap (padded 32) (sym (carried_software s)))
    ▸ refl
    )
