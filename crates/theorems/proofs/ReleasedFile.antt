-- Reading a released file gives exactly what the sheet keeps of the source.
-- Assumes nothing.
use mathlib.Core.Path.{◌≡◌, sym, ap, ◌∙◌}
use Prim.Native.Nat.{ℕ, ◌+◌, ◌-◌, ◌*◌}
use native.Mathlib.Omega.{arith}
use lib.ListN.{length, drop, length-append, length-replicate}
use lib.Seq.{drop_at}
use Rattle.fields.specs.Lists.{total}
use Rattle.fields.specs.Bytes.{Bytes, zeros}
use Rattle.lasfile.specs.Records.{written_length}
use Rattle.lasfile.specs.HeaderFields.{header_block, record_length}
use Rattle.publicpart.specs.Public.{Public, contents, public_of}
use Rattle.publicpart.specs.Render.{render}
use Rattle.publicpart.proofs.PublicLaws.{carried_length, contents_carried, public_carried, public_records, public_points}
use Rattle.publicpart.proofs.RenderLaws.{new_offset_lem, total_length}
use Rattle.publicpart.proofs.Back.{length-render}
use Rattle.theorems.specs.Terms.{Good, needed}
use Rattle.theorems.specs.ReleasedFile.{records_kept, points_kept, Holds, Complete}
use Rattle.theorems.proofs.ReleaseLaws.{public_sound, released, released-contents, Known, accepted_means, of_output}

-- a file whose contents are the public part
holds : (sheet f out : Bytes) → contents out ≡ public_of sheet f → Holds sheet f out
holds sheet f out e =
    record {
      whole = e;
      carried = sym (contents_carried out) ∙ ap (λ (p : Public). p.carried) e ∙ public_carried sheet f;
      records = ap (λ (p : Public). p.records) e ∙ public_records sheet f;
      points = ap (λ (p : Public). p.points) e ∙ public_points sheet f;
    }

length_is : (sheet f : Bytes) → Good f
    → needed sheet f
    ≡ header_block + total (written_length 2) (records_kept sheet f) + length (points_kept sheet f) * record_length f
length_is sheet f good =
    let p : Public = public_of sheet f in
    length-render p (public_sound sheet f good)
    ∙ total_length p
    ∙ rw (new_offset_lem p, public_records sheet f, public_points sheet f, public_carried sheet f, carried_length f)

pub complete : Complete
complete =
    record {
      holds =
          λ sheet f a n q r h.
          let m : Known sheet f a n q r = accepted_means sheet f a n q r h in
          of_output sheet f a n q r (Holds sheet f) m (λ k. holds sheet f (released sheet f k) (released-contents sheet f m.good k));
      counted =
          λ sheet f a n q r h.
          let m : Known sheet f a n q r = accepted_means sheet f a n q r h in
          record {
            points_are = sym m.answer.1 ∙ ap length (public_points sheet f);
            records_are = sym m.answer.2 ∙ ap length (public_records sheet f);
            length_is = sym m.answer.0 ∙ length_is sheet f m.good;
          };
      rest =
          λ sheet f a n q r h.
          let m : Known sheet f a n q r = accepted_means sheet f a n q r h in
          let x : Bytes = render (public_of sheet f) in
          let k : ℕ = length a - length x in (
            ap length m.output ∙ simp (length-append, length-replicate) (omega (arith, m.room)),
            ap (drop n) m.output ∙ drop_at x (zeros k) n m.answer.0 ∙ ap (λ (j : ℕ). zeros (length a - j)) m.answer.0,
          );
    }
