-- Every theorem on boxes and on the order of lines, applied where its hypotheses are met.
-- Assumes nothing.
use mathlib.Core.Path.{◌≡◌, refl, sym, ap, ◌∙◌}
use Prim.Native.Nat.{ℕ}
use native.Mathlib.Omega.{arith}
use mathlib.Core.Bool.{true, false}
use mathlib.Core.List.{List, [], ◌∷◌, Memᴰ}
use lib.ListN.{length}
use lib.IntN.{pos, negsuc}
use lib.Signed.{◌≤ℤ◌}
use Rattle.fields.specs.Bytes.{Bytes}
use Rattle.fields.specs.Checks.{Passes}
use Rattle.lasfile.specs.HeaderFields.{point_count}
use Rattle.sheet.specs.Sheet.{kind, low, high, lines, sheet_verdict}
use Rattle.sheet.specs.Keeping.{contains_point, keeps_class, keeps_place, keeps_point, has_box}
use Rattle.publicpart.specs.Public.{carried_of, contents, public_of}
use Rattle.theorems.specs.Terms.{Good, needed, Accepted}
use Rattle.theorems.specs.Sheets.{SomeLine, SameLines}
use Rattle.theorems.specs.Boxes.{inside_of, Encloses, Everything}
use Rattle.theorems.specs.Samples.{sheet3, point7}
use Rattle.theorems.specs.Instances.{filled, first9}
use Rattle.theorems.specs.BoxInstances.{box7, box_all, sheet_box, sheet_all, sheet_turned, beside9, BoxesMet, AnyOrderMet}
use Rattle.theorems.proofs.Demand3.{demand3}
use Rattle.theorems.proofs.Samples.{computed}
use Rattle.theorems.proofs.Instances.{all_small, all_bytes, sheet_passes9}
use Rattle.theorems.proofs.sheet.OrderLaws.{in_any_order}
use Rattle.theorems.proofs.sheet.BoxTheorems.{by_axis, kept_by_boxes, none_outside, larger_boxes}

-- ---- what is computed

good : (Good beside9) × (Good first9)
unfolding computed all_small
good = (record { bytes = all_bytes beside9 tt; passes = refl }, record { bytes = all_bytes first9 tt; passes = refl })

pub record Computed : Type 0 where
  pub passes : (sheet_verdict sheet_box ≡ Passes) × (sheet_verdict sheet_turned ≡ Passes)
  pub lines_are : (lines sheet_box ≡ sheet3 ∷ box7 ∷ []) × (lines sheet_all ≡ sheet3 ∷ box_all ∷ [])
      × (lines sheet_turned ≡ box7 ∷ sheet3 ∷ box7 ∷ [])
      × (lines box7 ≡ box7 ∷ [])
  pub kinds : (kind sheet3 ≡ 1) × (kind box7 ≡ 3) × (kind box_all ≡ 3)
  pub has : (has_box sheet_box ≡ true) × (has_box sheet3 ≡ false)
  pub contained : contains_point box7 (point7 2) ≡ true
  pub kept : (keeps_place sheet_box (point7 2) ≡ true) × (keeps_point sheet_box 0 (point7 2) ≡ true)
  pub edges : (low 0 box_all ≡ negsuc 2147483647) × (high 0 box_all ≡ pos 2147483647)
      × (low 1 box_all ≡ negsuc 2147483647) × (high 1 box_all ≡ pos 2147483647)
      × (low 2 box_all ≡ negsuc 2147483647) × (high 2 box_all ≡ pos 2147483647)
  pub own_edges : (low 0 box7 ≡ negsuc 0) × (high 0 box7 ≡ negsuc 0) × (low 1 box7 ≡ pos 100) × (high 1 box7 ≡ pos 100)
      × (low 2 box7 ≡ pos 0) × (high 2 box7 ≡ pos 0)
  pub carried : carried_of beside9 ≡ carried_of first9
  pub records : (contents beside9).records ≡ (contents first9).records
  pub insides : inside_of sheet_box beside9 ≡ inside_of sheet_box first9
  pub counts : (point_count beside9 ≡ 2) × (point_count first9 ≡ 1)
  pub needs : (needed sheet_box beside9 ≡ 255) × (needed sheet_box first9 ≡ 255) × (needed sheet3 beside9 ≡ 283) × (needed sheet3 first9 ≡ 255)
  pub points : (length (public_of sheet3 beside9).points ≡ 2) × (length (public_of sheet3 first9).points ≡ 1)

is : Computed
unfolding computed
is =
    record {
      passes = (refl, refl);
      lines_are = (refl, refl, refl, refl);
      kinds = (refl, refl, refl);
      has = (refl, refl);
      contained = refl;
      kept = (refl, refl);
      edges = (refl, refl, refl, refl, refl, refl);
      own_edges = (refl, refl, refl, refl, refl, refl);
      carried = refl;
      records = refl;
      insides = refl;
      counts = (refl, refl);
      needs = (refl, refl, refl, refl);
      points = (refl, refl);
    }

accepted : Accepted sheet_box beside9 (filled 7) 255 1 0
unfolding computed
accepted = record { bytes = good.0.bytes; answer = refl }

-- ---- lines of these sheets

-- every line is of kind 1 or 3
second_line : (x y l : Bytes) → Memᴰ l (x ∷ y ∷ []) → kind x ≡ 1 → kind l ≡ 3 → l ≡ y
second_line x y l (mathlib.Core.List.Memᴰ.tail (mathlib.Core.List.Memᴰ.tail x11)) a b = elim x11 [ ]
second_line x y l (Memᴰ.head q) a b = absurd (let z : ◌≡◌ {A = ℕ} 1 3 = sym a ∙ ap kind (sym q) ∙ b in omega (arith, z))
second_line x y l (Memᴰ.tail (Memᴰ.head q)) a b = q

box_among : Memᴰ box7 (lines sheet_box)
box_among = rw is.lines_are.0 (Memᴰ.tail (Memᴰ.head refl))

all_among : Memᴰ box_all (lines sheet_all)
all_among = rw is.lines_are.1 (Memᴰ.tail (Memᴰ.head refl))

turned : (x y l : Bytes) → Memᴰ l (x ∷ y ∷ []) → Memᴰ l (y ∷ x ∷ y ∷ [])
turned x y l m = Memᴰ.tail m

back : (x y l : Bytes) → Memᴰ l (y ∷ x ∷ y ∷ []) → Memᴰ l (x ∷ y ∷ [])
back x y l (Memᴰ.head q) = Memᴰ.tail (Memᴰ.head q)
back x y l (Memᴰ.tail m) = m

same_lines : SameLines sheet_box sheet_turned
same_lines l = rw (is.lines_are.0, is.lines_are.2) (turned sheet3 box7 l, back sheet3 box7 l)

-- ---- the box around everything

everything : Everything box_all
everything = (
  is.kinds.2,
  by_axis (λ axis. (low axis box_all ≡ negsuc 2147483647) × (high axis box_all ≡ pos 2147483647)) (is.edges.0, is.edges.1) (is.edges.2, is.edges.3) (is.edges.4, is.edges.5),
)

encloses : Encloses box_all box7
encloses =
    by_axis (λ axis. (low axis box_all ≤ℤ low axis box7) × (high axis box7 ≤ℤ high axis box_all))
    (rw (is.edges.0, is.edges.1, is.own_edges.0, is.own_edges.1) (record { le = tt }, record { le = tt }))
    (rw (is.edges.2, is.edges.3, is.own_edges.2, is.own_edges.3) (record { le = tt }, record { le = tt }))
    (rw (is.edges.4, is.edges.5, is.own_edges.4, is.own_edges.5) (record { le = tt }, record { le = tt }))

same_class : (c : ℕ) → keeps_class sheet_box c ≡ keeps_class sheet_all c
unfolding computed
same_class c = refl

same_class_3 : (c : ℕ) → keeps_class sheet3 c ≡ keeps_class sheet_all c
unfolding computed
same_class_3 c = refl

larger_of : (l : Bytes) → Memᴰ l (lines sheet_box) → kind l ≡ 3 → SomeLine (lines sheet_all) (λ m. (kind m ≡ 3) × Encloses m l)
larger_of l m e =
    let own : l ≡ box7 = second_line sheet3 box7 l (rw is.lines_are.0 at m) is.kinds.0 e in
    record { line = box_all; among = all_among; so = (is.kinds.2, rw own encloses) }

pub boxes_met : BoxesMet
boxes_met =
    record {
      inside = (kept_by_boxes.inside box7 (point7 2)).0 is.contained;
      place = (kept_by_boxes.place sheet_box (point7 2)).0 is.kept.0 record { line = box7; among = box_among; so = is.kinds.1 };
      no_class = kept_by_boxes.no_class box7 (rw is.lines_are.3 (λ e. let z : ◌≡◌ {A = ℕ} 3 1 = sym is.kinds.1 ∙ e in omega (arith, z), tt)) 0 (point7 2);
      none_goes_out = none_outside.none_goes_out sheet_box beside9 (filled 7) 255 1 0 accepted;
      files_differ = λ e. omega (arith, ap point_count e, is.counts.0, is.counts.1);
      same_public_part = same_part;
      alike =
          (demand3.exactly sheet_box beside9 first9 (filled 7) (filled 9) is.passes.0 good.0 good.1 refl
          (omega (arith, is.needs.0)) (omega (arith, is.needs.1))).1 same_part;
      apart = λ same.
          let parts = (demand3.exactly sheet3 beside9 first9 (filled 7) (filled 9) sheet_passes9 good.0 good.1 refl
          (omega (arith, is.needs.2)) (omega (arith, is.needs.3))).0 same in
          omega (arith, ap (λ p. length p.points) parts, is.points.0, is.points.1);
      contains = larger_boxes.contains box_all box7 (point7 2) is.kinds.2 encloses is.contained;
      keeps = larger_boxes.keeps sheet_box sheet_all same_class is.has.0 larger_of 0 (point7 2) is.kept.1;
      as_none = larger_boxes.as_none sheet3 sheet_all same_class_3 is.has.1 record { line = box_all; among = all_among; so = everything };
    }
  where
    same_part : public_of sheet_box beside9 ≡ public_of sheet_box first9
    same_part = none_outside.same_public_part sheet_box beside9 first9 is.carried is.records is.insides

pub any_order_met : AnyOrderMet
any_order_met =
    record {
      keeps = in_any_order.keeps sheet_box sheet_turned same_lines;
      public_part = in_any_order.public_part sheet_box sheet_turned beside9 same_lines;
      released = in_any_order.released sheet_box sheet_turned beside9 (filled 7) same_lines is.passes.0 is.passes.1;
    }
