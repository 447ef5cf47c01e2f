-- `lasfile::check_header` meets its contract. Assumes nothing.
use mathlib.Core.Path.{◌≡◌, refl, sym, ap, ◌∙◌}
use mathlib.Core.Bool.{Bool}
use mathlib.Core.Logic.{inl, inr}
use mathlib.Core.List.{[], ◌∷◌}
use native.Mathlib.Omega.{arith}
use lib.ListN.{length, get_or}
use Rattle.fields.specs.Bytes.{Bytes, part, same}
use Rattle.fields.proofs.ByteLaws.{agrees}
use Rattle.fields.proofs.CheckLaws.{first_fails, first_clear}
use Rattle.lasfile.specs.HeaderFields.{signature, version}
use borrow.Author.Rules.{rules}
use Rattle.lasfile.proofs.check_header.Goals.{After-same_bytes, After-same_bytes-2, Else-not-same_bytes, Else-not-same_bytes-2}
use Rattle.lasfile.proofs.check_header.Goals as goal

-- what was compared
sign_compared : (c : After-same_bytes) → c.same_bytes.result ≡ same (part 0 4 c.args.file.now) signature
sign_compared c =
    let found : c.same_bytes.result ≡ same c.part_at.result.now signature = c.same_bytes.ensures in
    found ∙ ap (λ (p : Bytes). same p signature) c.part_at.ensures

-- byte by byte, so that a wrong one is named
with_version : (r : Bool) (x t : Bytes) → r ≡ same x t → length t ≡ 2 → get_or t 0 0 ≡ 1 → get_or t 1 0 ≡ 2 → r ≡ same x version
with_version r x [] e n major minor = absurd (omega arith)
with_version r x (a ∷ []) e n major minor = absurd (omega arith)
with_version r x (a ∷ b ∷ []) e n major minor = rw (e, major, minor)
with_version r x (a ∷ b ∷ c ∷ t) e n major minor = absurd (omega arith)

version_compared : (c : After-same_bytes-2) → c.same_bytes-2.result ≡ same (part 24 2 c.args.file.now) version
version_compared c =
    with_version _ _ _ c.same_bytes-2.ensures refl refl refl ∙ ap (λ (p : Bytes). same p version) c.part_at-2.ensures

pub part_at-requires-2 : goal.part_at-requires-2
part_at-requires-2 c = search rules

signed : (c : Else-not-same_bytes) → part 0 4 c.args.file.now ≡ signature
signed c = agrees _ _ _ signature (sign_compared (goal.at.part_at-requires-2 c).After-same_bytes) refl c.if-not-same_bytes.false

pub header_size-size-requires : goal.header_size-size-requires
header_size-size-requires c = search rules

versioned : (c : Else-not-same_bytes-2) → part 24 2 c.args.file.now ≡ version
versioned c = agrees _ _ _ version (version_compared (goal.at.header_size-size-requires c).After-same_bytes-2) refl c.if-not-same_bytes-2.false

pub returns-then-length-lt-HEADER_BLOCK : goal.returns-then-length-lt-HEADER_BLOCK
returns-then-length-lt-HEADER_BLOCK c = sym (first_fails _ _ _ (omega arith))

pub returns-then-not-same_bytes : goal.returns-then-not-same_bytes
returns-then-not-same_bytes c =
    sym (first_clear _ _ _ (omega arith) ∙ first_fails _ _ _ (sym (sign_compared (goal.at.returns-then-not-same_bytes c).After-same_bytes) ∙ c.if-not-same_bytes.true))

pub returns-then-not-same_bytes-2 : goal.returns-then-not-same_bytes-2
returns-then-not-same_bytes-2 c =
    sym (first_clear _ _ _ (omega arith)
    ∙ first_clear _ _ _ (signed (goal.at.returns-then-not-same_bytes-2 c).Else-not-same_bytes)
    ∙ first_fails _ _ _ (sym (version_compared (goal.at.returns-then-not-same_bytes-2 c).After-same_bytes-2) ∙ c.if-not-same_bytes-2.true))

pub returns-then-size-lt-HEADER_BLOCK : goal.returns-then-size-lt-HEADER_BLOCK
returns-then-size-lt-HEADER_BLOCK c =
    sym (first_clear _ _ _ (omega arith)
    ∙ first_clear _ _ _ (signed (goal.at.returns-then-size-lt-HEADER_BLOCK c).Else-not-same_bytes)
    ∙ first_clear _ _ _ (versioned (goal.at.returns-then-size-lt-HEADER_BLOCK c).Else-not-same_bytes-2)
    ∙ first_fails _ _ _ (inl (omega arith)))

pub returns-then-length-size : goal.returns-then-length-size
returns-then-length-size c =
    sym (first_clear _ _ _ (omega arith)
    ∙ first_clear _ _ _ (signed (goal.at.returns-then-length-size c).Else-not-same_bytes)
    ∙ first_clear _ _ _ (versioned (goal.at.returns-then-length-size c).Else-not-same_bytes-2)
    ∙ first_fails _ _ _ (inr (omega arith)))

pub returns : goal.returns
returns c =
    c.check_points.ensures
    ∙ sym (first_clear _ _ _ (omega arith)
    ∙ first_clear _ _ _ (signed (goal.at.returns c).Else-not-same_bytes)
    ∙ first_clear _ _ _ (versioned (goal.at.returns c).Else-not-same_bytes-2)
    ∙ first_clear _ _ _ (omega arith, omega arith))
