-- `geokeys::in_directory` meets its contract. Assumes nothing.
use mathlib.Core.Path.{ap, ◌∙◌}
use mathlib.Core.List.{List}
use Rattle.fields.specs.Bytes.{Bytes}
use Rattle.geokeys.specs.GeoKeys.{entry_of, from_entry}
use Rattle.geokeys.proofs.in_directory.Goals as goal

pub returns : goal.returns
returns c =
    let key = c.args.key in
    c.at_entry.ensures ∙ ap (from_entry c.args.file.now) (c.find_entry.ensures ∙ ap (λ (es : List Bytes). entry_of es key) c.entries.ensures.0)
