-- `point::point_at` meets its contract. Assumes nothing.
use mathlib.Core.Path.{◌≡◌, sym, ◌∙◌, subst}
use Rattle.std.proofs.Common.{rules}
use Prim.Native.Nat.{ℕ, suc, ◌+◌, ◌*◌, ◌≤◌, ◌<◌}
use native.Mathlib.Nat.{mul-le-mul_right}
use native.Mathlib.Omega.{arith}
use borrow.Author.Tests.{lt-ltb, le-ltb}
use lib.ListN.{length}
use lib.Dec.{T}
use Rattle.fields.specs.Bytes.{Bytes, part}
use Rattle.fields.specs.Checks.{first_failing, Passes, Fails}
use Rattle.fields.proofs.ByteLaws.{length_part}
use Rattle.fields.proofs.CheckLaws.{first_fails, all_clear, then_passes, then_fails}
use Rattle.points.specs.Points.{Fields, point_of, decoded}
use Rattle.points.proofs.AnswerLaws.{decodes}
use Rattle.lasfile.specs.HeaderFields.{point_count, record_length, format}
use Rattle.lasfile.specs.FileChecks.{file_verdict}
use Rattle.reader.specs.OnePoint.{point_checks, point_place, point_if, point_at_of, At, Refused}
use Rattle.lasfile.proofs.Passed.{passed, product_small}
use Rattle.reader.proofs.point.point_at.Goals.{After-decode, Else-point_count-index, In_ok-check_file}
use Rattle.reader.proofs.point.point_at.Goals as goal

-- what is answered, case by case
module _ (s : Bytes) (index : ℕ) where
  refused_by_file : (n : ℕ) → file_verdict s ≡ Fails n → point_at_of s index ≡ Refused n
  unfolding point_at_of point_if
  refused_by_file n e = rw (then_fails (file_verdict s) (first_failing (point_checks s index)) n e)

  module _ (passes : file_verdict s ≡ Passes) where
    refused_11 : point_count s ≤ index → point_at_of s index ≡ Refused 11
    unfolding point_at_of point_if
    refused_11 h =
        rw (then_passes (file_verdict s) (first_failing (point_checks s index)) passes, first_fails 11 _ _ (le-ltb index (point_count s) h))

    module _ (below : index < point_count s) where
      answered : point_at_of s index ≡ At (point_place s index) (point_of (format s) (part (point_place s index) (record_length s) s))
      unfolding point_at_of point_if
      answered =
          rw (
            then_passes (file_verdict s) (first_failing (point_checks s index)) passes,
            all_clear (point_checks s index) (subst T (sym (lt-ltb index (point_count s) below)) tt, tt),
          )

      -- the record lies in the file
      in_file : point_place s index + record_length s ≤ length s
      unfolding point_place
      in_file =
          let more : suc index * record_length s ≤ point_count s * record_length s = mul-le-mul_right (record_length s) below in
          let e : suc index * record_length s ≡ record_length s + index * record_length s = omega arith in
          omega (arith, more, e, (passed s passes).pointed)

      -- and is decoded
      decoded_here : (f n : ℕ) (b : Bytes) → f ≡ format s → n ≡ record_length s → b ≡ part (point_place s index) n s
          → decoded f n b ≡ Fields (point_of (format s) (part (point_place s index) (record_length s) s))
      decoded_here f n b e l p =
          rw (p, e, l) (decodes (format s) (record_length s) _ (length_part (point_place s index) (record_length s) s in_file) (passed s passes).record_low (passed s passes).formatted)

passes_at : (c : In_ok-check_file) → file_verdict c.args.file.now ≡ Passes
passes_at c = sym c.in_ok-check_file.ensures

below_at : (c : Else-point_count-index) → c.args.index < point_count c.args.file.now
below_at c = omega arith

-- what is decoded, over the file
decoded_at : (c : After-decode) → file_verdict c.args.file.now ≡ Passes → c.args.index < point_count c.args.file.now
    → decoded c.format-format.result c.record_length-length.result c.part_at.result.now
    ≡ Fields (point_of (format c.args.file.now) (part (point_place c.args.file.now c.args.index) (record_length c.args.file.now) c.args.file.now))
unfolding point_place
decoded_at c passes below =
    let s = c.args.file.now in
    let index = c.args.index in
    let length = c.record_length-length.ensures.0 in
    let bytes : c.part_at.result.now ≡ part (point_place s index) c.record_length-length.result s =
    c.part_at.ensures ∙ rw (c.point_offset.ensures.0, length) in
    decoded_here s index passes below _ _ _ c.format-format.ensures.0 length bytes

pub returns-in_err-check_file : goal.returns-in_err-check_file
returns-in_err-check_file c =
    let refused = sym (refused_by_file c.args.file.now c.args.index _ (sym c.in_err-check_file.ensures)) in search (rules, refused)

pub returns-then-point_count-index : goal.returns-then-point_count-index
returns-then-point_count-index c = sym (refused_11 _ _ (passes_at (goal.at.returns-then-point_count-index c).In_ok-check_file) (omega arith))

pub overflow_mul-place : goal.overflow_mul-place
overflow_mul-place c = omega (arith, product_small c.args.index c.record_length-length.result (omega arith) (omega arith))

pub overflow_add-place : goal.overflow_add-place
overflow_add-place c = omega (arith, product_small c.args.index c.record_length-length.result (omega arith) (omega arith))

pub returns : goal.returns
unfolding point_place
returns c =
    let s = c.args.file.now in
    let g = goal.at.returns c in
    let passes = passes_at g.In_ok-check_file in
    let below = below_at g.Else-point_count-index in
    let answer = answered s c.args.index passes below in
    let told = c.in_ok-point.ensures ∙ decoded_at g.After-decode passes below in
    let place = c.point_offset.ensures.0 in
    let length = c.record_length-length.ensures.0 in
    cc

pub returns-in_err-point : goal.returns-in_err-point
returns-in_err-point c =
    let g = goal.at.returns-in_err-point c in
    let told = c.in_err-point.ensures ∙ decoded_at g.After-decode (passes_at g.In_ok-check_file) (below_at g.Else-point_count-index) in
    let z : ◌≡◌ {A = ℕ} 0 1 = cc in
    absurd (omega arith)
