-- `lasfile::check_points` meets its contract. Assumes nothing.
use mathlib.Core.Path.{◌≡◌, sym, ◌∙◌}
use mathlib.Core.Logic.{inl, inr}
use native.Mathlib.Omega.{arith}
use Rattle.points.specs.Formats.{format_size}
use Rattle.points.proofs.layouts.LayoutLaws.{size_is}
use Rattle.fields.proofs.CheckLaws.{first_fails, first_clear, all_clear}
use Rattle.lasfile.specs.HeaderFields.{format}
use Rattle.lasfile.proofs.check_points.Goals.{After-layout_of-layout}
use Rattle.lasfile.proofs.check_points.Goals as goal

-- the size of the layout that was found
size_found : (c : After-layout_of-layout) → c.layout_of-layout.result.size ≡ format_size (format c.args.file.now)
size_found c = size_is _ _ _ c.layout_of-layout.ensures c.format-format.ensures.0

pub returns-then-format-gt-HIGHEST : goal.returns-then-format-gt-HIGHEST
returns-then-format-gt-HIGHEST c = sym (first_fails _ _ _ (omega arith))

pub returns-then-record_length-size : goal.returns-then-record_length-size
returns-then-record_length-size c = sym (first_clear _ _ _ (omega arith) ∙ first_fails _ _ _ (omega (arith, size_found (goal.at.returns-then-record_length-size c).After-layout_of-layout)))

pub returns-then-offset-header_size : goal.returns-then-offset-header_size
returns-then-offset-header_size c =
    sym (first_clear _ _ _ (omega arith)
    ∙ first_clear _ _ _ (omega (arith, size_found (goal.at.returns-then-offset-header_size c).After-layout_of-layout))
    ∙ first_fails _ _ _ (inl (omega arith)))

pub returns-then-file-offset : goal.returns-then-file-offset
returns-then-file-offset c =
    sym (first_clear _ _ _ (omega arith)
    ∙ first_clear _ _ _ (omega (arith, size_found (goal.at.returns-then-file-offset c).After-layout_of-layout))
    ∙ first_fails _ _ _ (inr (omega arith)))

pub returns : goal.returns
returns c =
    sym (all_clear _ (omega arith, (omega (arith, size_found (goal.at.returns c).After-layout_of-layout), ((omega arith, omega arith), tt))))
