-- The theorems on classes and flags, by the laws beside what is kept. Assumes nothing.
use mathlib.Core.Path.{◌≡◌, sym, ap, ◌∙◌}
use Prim.Native.Nat.{ℕ}
use native.Mathlib.Omega.{arith}
use mathlib.Core.Bool.{true, false}
use mathlib.Core.List.{List, [], ◌∷◌}
use Rattle.fields.specs.Lists.{All, kept}
use Rattle.fields.specs.Bytes.{Bytes}
use Rattle.fields.proofs.ListLaws.{kept_pass}
use Rattle.points.specs.Raw.{withheld_of}
use Rattle.points.proofs.raw.RawLaws.{class_byte_lem, class_small, parts_joined}
use Rattle.sheet.specs.Keeping.{keeps_point}
use Rattle.sheet.proofs.class_table.ClassLaws as laws
use Rattle.lasfile.specs.HeaderFields.{format}
use Rattle.publicpart.specs.Public.{Carried, carried_of, contents, sheet_keeps, public_of}
use Rattle.publicpart.proofs.PublicLaws.{carried_format, public_carried, public_records, public_points}
use Rattle.theorems.specs.ReleasedFile.{Holds, points_kept}
use Rattle.theorems.specs.Classes.{Classified, KeptByClass, not_withheld, NoneWithheld}
use Rattle.theorems.proofs.ReleasedFile.{complete}

pub classified : Classified
classified = record { to_31 = λ f p. omega (arith, class_small f p); joined = λ f p h. sym (parts_joined f p (class_byte_lem f p h)) }

pub kept_by_class : KeptByClass
kept_by_class =
    record {
      exactly = laws.keeps_exactly;
      never_withheld = laws.keeps_no_withheld;
      other_flags = laws.keeps_alike;
      above_31 = laws.keeps_to_31;
    }

-- ---- no withheld point goes out

none_kept : (sheet : Bytes) (f : ℕ) (ps : List Bytes) → All (λ p. keeps_point sheet f p ≡ true) ps
    → All (λ p. withheld_of f p ≡ false) ps
none_kept sheet f [] h = tt
none_kept sheet f (p ∷ ps) h = (((laws.keeps_exactly sheet f p).0 h.0).1, none_kept sheet f ps h.1)

-- of a file that holds the public part
none_in : (sheet f out : Bytes) → Holds sheet f out → All (λ p. withheld_of (format out) p ≡ false) (contents out).points
none_in sheet f out h =
    let same : format out ≡ format f = sym (carried_format out) ∙ ap (λ (c : Carried). c.format) h.carried ∙ carried_format f in
    rw (h.points, same)
    (none_kept sheet (format f) (points_kept sheet f) (kept_pass (keeps_point sheet (format f)) (contents f).points))

-- ---- nor shows in what does

format_same : (f g : Bytes) → carried_of f ≡ carried_of g → format f ≡ format g
format_same f g c = sym (carried_format f) ∙ ap (λ (k : Carried). k.format) c ∙ carried_format g

-- of files with the same carried fields and records of whose points the same are kept
pub same_part : (sheet f g : Bytes) → carried_of f ≡ carried_of g → (contents f).records ≡ (contents g).records
    → kept (keeps_point sheet (format f)) (contents f).points ≡ kept (keeps_point sheet (format f)) (contents g).points
    → public_of sheet f ≡ public_of sheet g
same_part sheet f g c r h =
    let carried : (public_of sheet f).carried ≡ (public_of sheet g).carried = public_carried sheet f ∙ c ∙ sym (public_carried sheet g) in
    let records : (public_of sheet f).records ≡ (public_of sheet g).records =
    public_records sheet f ∙ ap (kept (sheet_keeps sheet)) r ∙ sym (public_records sheet g) in
    let points : (public_of sheet f).points ≡ (public_of sheet g).points =
    public_points sheet f ∙ h ∙ rw (format_same f g c) (sym (public_points sheet g)) in
    λ i. record { carried = carried i; records = records i; points = points i }

same_public_part : (sheet f g : Bytes) → carried_of f ≡ carried_of g → (contents f).records ≡ (contents g).records
    → not_withheld f ≡ not_withheld g → public_of sheet f ≡ public_of sheet g
same_public_part sheet f g c r w =
    same_part sheet f g c r
    (laws.kept_by_class sheet (format f) (contents f).points
    ∙ rw (w, format_same f g c) (sym (laws.kept_by_class sheet (format g) (contents g).points)))

pub none_withheld : NoneWithheld
none_withheld =
    record {
      none_goes_out =
          λ sheet f a n q r h.
          let k = complete.holds sheet f a n q r h in
          (none_in sheet f _ k.0, none_in sheet f _ k.1);
      same_public_part = same_public_part;
    }
