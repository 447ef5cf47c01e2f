-- What a sheet keeps depends on the set of its lines.
-- Assumes nothing.
use mathlib.Core.Path.{◌≡◌, refl, sym, ◌∙◌}
use mathlib.Core.Logic.{◌↔◌}
use Prim.Native.Nat.{ℕ}
use mathlib.Core.Bool.{Bool, true, false, not, ◌||◌}
use mathlib.Core.List.{List, Memᴰ}
use Rattle.fields.specs.Lists.{any_of}
use Rattle.fields.specs.Bytes.{Bytes}
use Rattle.fields.specs.Checks.{Passes}
use Rattle.fields.proofs.ListLaws.{kept_same, all_of}
use Rattle.lasfile.specs.HeaderFields.{format}
use Rattle.lasfile.specs.Records.{Record}
use Rattle.sheet.specs.Sheet.{lines, sheet_verdict}
use Rattle.sheet.specs.Keeping.{contains_class, is_box, contains_point, names_record, keeps_class, has_box, keeps_place, keeps_point, keeps_record}
use Rattle.sheet.proofs.class_table.ClassLaws.{keeps_to_31}
use Rattle.publicpart.specs.Public.{contents, sheet_keeps, public_of}
use Rattle.publicpart.specs.Release.{release}
use Rattle.publicpart.proofs.PublicLaws.{public_carried, public_records, public_points}
use Rattle.theorems.specs.Sheets.{SomeLine, SameLines, AnyOrder}
use Rattle.theorems.proofs.sheet.KeepingLaws.{some_says}

-- ---- some line passes a test

pub implied : (a b : Bool) → (a ≡ true → b ≡ true) → (b ≡ true → a ≡ true) → a ≡ b
implied true b f g = sym (f refl)
implied false true f g = g refl
implied false false f g = refl

module _ (p : Bytes → Bool) where
  pub some_true : (ls : List Bytes) → (any_of p ls ≡ true) ↔ SomeLine ls (λ l. p l ≡ true)
  some_true ls = some_says p (λ l. p l ≡ true) (λ l. (λ e. e, λ e. e)) ls

  among_others : (ks ls : List Bytes) → ((l : Bytes) → Memᴰ l ks → Memᴰ l ls) → any_of p ks ≡ true → any_of p ls ≡ true
  among_others ks ls h e =
      let w : SomeLine ks (λ l. p l ≡ true) = (some_true ks).0 e in
      (some_true ls).1 record { line = w.line; among = h w.line w.among; so = w.so }

  any_order : (ks ls : List Bytes) → ((l : Bytes) → Memᴰ l ks ↔ Memᴰ l ls) → any_of p ks ≡ any_of p ls
  any_order ks ls h = implied (any_of p ks) (any_of p ls) (among_others ks ls (λ l. (h l).0)) (among_others ls ks (λ l. (h l).1))

-- ---- what is kept

module _ (s t : Bytes) (same : SameLines s t) where
  same_class : (c : ℕ) → keeps_class s c ≡ keeps_class t c
  unfolding keeps_class
  same_class c = any_order (λ l. contains_class l c) (lines s) (lines t) same

  same_record : (user : Bytes) (id : ℕ) → keeps_record s user id ≡ keeps_record t user id
  unfolding keeps_record
  same_record user id = any_order (λ l. names_record l user id) (lines s) (lines t) same

  same_place : (p : Bytes) → keeps_place s p ≡ keeps_place t p
  unfolding keeps_place has_box
  same_place p =
      let box = any_order is_box (lines s) (lines t) same in
      let point = any_order (λ l. contains_point l p) (lines s) (lines t) same in
      λ i. not (box i) || point i

  same_point : (f : ℕ) (p : Bytes) → keeps_point s f p ≡ keeps_point t f p
  same_point = keeps_to_31 s t (λ c _. same_class c) same_place

  same_part : (f : Bytes) → public_of s f ≡ public_of t f
  same_part f =
      let carried = public_carried s f ∙ sym (public_carried t f) in
      let records : (public_of s f).records ≡ (public_of t f).records =
      public_records s f
      ∙ kept_same (sheet_keeps s) (sheet_keeps t) (contents f).records (all_of _ (contents f).records (λ (r : Record). same_record r.user r.id))
      ∙ sym (public_records t f) in
      let points : (public_of s f).points ≡ (public_of t f).points =
      public_points s f
      ∙ kept_same (keeps_point s (format f)) (keeps_point t (format f)) (contents f).points (all_of _ (contents f).points (same_point (format f)))
      ∙ sym (public_points t f) in
      λ i. record { carried = carried i; records = records i; points = points i }

  same_release : (f a : Bytes) → sheet_verdict s ≡ Passes → sheet_verdict t ≡ Passes → release s f a ≡ release t f a
  unfolding release
  same_release f a passes passes' = rw (passes, passes', same_part f)

pub in_any_order : AnyOrder
in_any_order =
    record {
      keeps = λ s t h. record { class = same_class s t h; entry = same_record s t h; place = same_place s t h; point = same_point s t h };
      public_part = λ s t f h. same_part s t h f;
      released = λ s t f a h. same_release s t h f a;
    }
