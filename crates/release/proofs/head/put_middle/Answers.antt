-- `head::put_middle` meets its contract. Assumes nothing.
use mathlib.Core.Path.{refl, sym, ap, ◌∙◌}
use mathlib.Core.List.{[], ◌∷◌}
use lib.ListN.{take, drop}
use Rattle.fields.specs.Bytes.{bytes_of}
use Rattle.fields.proofs.arrays.NumberLaws.{stored_next}
use Rattle.lasfile.specs.HeaderFields.{header_block}
use Rattle.publicpart.specs.Head.{head_widths, head_fields}
use Rattle.publicpart.proofs.PublicLaws.{carried_day, carried_year, carried_format, carried_length}
use Rattle.tally.specs.Bins.{bin_numbers}
use Rattle.release.specs.Heads.{head_with}
use Rattle.release.proofs.head.FieldStores.{◌▸◌, all_stored, each_stored}
use Rattle.release.proofs.head.put_middle.Goals as goal

pub returns : goal.returns
unfolding head_with bin_numbers
returns c =
    let a = c.args in
    let s = a.source.now in
    all_stored (take 9 (drop 5 head_widths)) (take 9 (drop 5 (head_fields (head_with s a.totals)))) a.out.now 90 _ (
    (refl, ap (bytes_of 2) (c.number_at-day.ensures.0 ∙ sym (carried_day s)))
    ▸ (refl, ap (bytes_of 2) (c.number_at-year.ensures.0 ∙ sym (carried_year s)))
    ▸ (each_stored 2 (c.number_at-day.result ∷ c.number_at-year.result ∷ header_block ∷ []) a.out.now 90 c.put_numbers.ensures, refl)
    ▸ (refl, refl)
    ▸ (each_stored 4 (a.totals.offset ∷ a.totals.records ∷ []) c.put_numbers.new.out 96 c.put_numbers-2.ensures, refl)
    ▸ (c.put_number.ensures, ap (bytes_of 1) (c.format.ensures.0 ∙ sym (carried_format s)))
    ▸ (c.put_number-2.ensures, ap (bytes_of 2) (c.record_length.ensures.0 ∙ sym (carried_length s)))
    ▸ (refl, refl)
    ▸ (c.put_counts.ensures ∙ stored_next c.put_number-2.new.s 107 4 a.totals.points (bin_numbers a.totals.bins), refl)
    ▸ refl
    )
