-- `copying::copy_all` meets its contract. Assumes nothing.
use mathlib.Core.Path.{◌≡◌, ap, ◌∙◌}
use Prim.Native.Nat.{ℕ, ◌+◌, ◌≤◌}
use native.Mathlib.Omega.{arith}
use lib.ListN.{length}
use lib.Seq.{paste, sets, take-length}
use Rattle.fields.specs.Bytes.{Bytes}
use Rattle.fields.proofs.StoreLaws.{paste-sets}
use Rattle.fields.proofs.copying.copy_all.Goals.{Start}
use Rattle.fields.proofs.copying.copy_all.Goals as goal

-- all of s was copied
whole : (d : Bytes) (at : ℕ) (s : Bytes) {r : Bytes} → at + length s ≤ length d → r ≡ paste d at s (length s) → r ≡ sets d at s
whole d at s h copied = copied ∙ paste-sets d at s (length s) (omega arith) h ∙ ap (sets d at) (take-length s)

pub returns-then-n-lt16 : goal.returns-then-n-lt16
returns-then-n-lt16 c =
    whole c.args.dst.now c.args.at c.args.src.now c.requires c.copy_bytes.ensures

pub returns-then-n-le32 : goal.returns-then-n-le32
returns-then-n-le32 c =
    whole c.args.dst.now c.args.at c.args.src.now c.requires c.copy_two.ensures

pub returns-else-n-le32 : goal.returns-else-n-le32
returns-else-n-le32 c =
    whole c.args.dst.now c.args.at c.args.src.now c.requires c.copy_blocks.ensures
