-- What is written from the cutting list of a file that passes, with zeros and the header, is the released file and
-- zeros.
-- Assumes nothing.
use mathlib.Core.Path.{◌≡◌, sym, ap, ◌∙◌}
use Prim.Native.Nat.{ℕ, ◌+◌, ◌-◌, ◌*◌, ◌≤◌}
use native.Mathlib.Omega.{arith}
use mathlib.Core.List.{[], ◌++◌, append_assoc, append-nil}
use lib.ListN.{length, take, drop, length-append, length-replicate, replicate-append-replicate, drop_of_length-le}
use lib.Seq.{sets, sets-eq, length-sets, take_at, drop_at}
use Rattle.fields.specs.Bytes.{Bytes, AllBytes, zeros, join}
use Rattle.fields.specs.Checks.{Passes}
use Rattle.fields.proofs.ByteLaws.{pieces_back}
use Rattle.fields.proofs.StoreLaws.{sets_room}
use Rattle.points.specs.Raw.{points_of}
use Rattle.points.proofs.raw.RunLaws.{InRun, points_held}
use Rattle.lasfile.specs.Records.{records_bytes}
use Rattle.lasfile.specs.HeaderFields.{header_block, record_length}
use Rattle.lasfile.specs.FileChecks.{file_verdict}
use Rattle.publicpart.specs.Public.{public_of}
use Rattle.publicpart.specs.Render.{new_offset, render}
use Rattle.release.specs.ByList.{zeroed_from, finished_file}
use Rattle.release.proofs.AssemblyLaws.{sound_part, length_is, render-length, length_of_points, long, offset_is, length_front, headed}

length-zeros : (k : ℕ) → length (zeros k) ≡ k
length-zeros k = length-replicate k 0

regroup : (a b c d : Bytes) → (a ++ (b ++ c)) ++ d ≡ (a ++ b) ++ (c ++ d)
regroup a b c d = append_assoc a (b ++ c) d ∙ ap (λ (x : Bytes). a ++ x) (append_assoc b c d) ∙ sym (append_assoc a b (c ++ d))

-- zeros behind n bytes, to the end
zero_behind : (d : Bytes) (n : ℕ) → n ≤ length d → sets d n (zeros (length d)) ≡ take n d ++ zeros (length d - n)
zero_behind d n h =
    let k : ℕ = length d - n in
    let in_two : zeros (length d) ≡ zeros k ++ zeros n = let e : k + n ≡ length d = omega arith in sym (replicate-append-replicate k n 0 ∙ ap zeros e) in
    let fewer : take k (zeros (length d)) ≡ zeros k = ap (take k) in_two ∙ take_at (zeros k) (zeros n) k (length-zeros k) in
    let none : drop (n + length (zeros k)) d ≡ [] = drop_of_length-le d {i = n + length (zeros k)} (omega (arith, length-zeros k)) in
    sym (sets_room d n k (zeros (length d)) (omega arith))
    ∙ rw fewer (sets-eq (zeros k) d n (omega (arith, length-zeros k)) ∙ rw (none, append-nil))

module _ (sheet s : Bytes) (bytes : AllBytes s) (passes : file_verdict s ≡ Passes) (out : Bytes) (room : length (render (public_of sheet s)) ≤ length out) where
  abbrev need : ℕ
  need = length (render (public_of sheet s))

  abbrev rs : Bytes
  rs = records_bytes 2 (public_of sheet s).records

  abbrev ps : Bytes
  ps = join (public_of sheet s).points

  abbrev top : Bytes
  top = take header_block out

  abbrev behind : Bytes
  behind = zeros (length out - need)

  pub length_items : header_block + length (rs ++ ps) ≡ need
  length_items = omega (arith, length-append rs ps, length_of_points sheet s bytes passes, render-length sheet s bytes passes, offset_is sheet s bytes passes)

  abbrev itemed : Bytes
  itemed = sets out header_block (rs ++ ps)

  items_stored : take need itemed ≡ top ++ (rs ++ ps)
  items_stored =
      let later : Bytes = drop (header_block + length (rs ++ ps)) out in
      ap (take need) (sets-eq (rs ++ ps) out header_block (omega (arith, length_items)))
      ∙ take_at (top ++ (rs ++ ps)) later need (omega (arith, length-append top (rs ++ ps), length_front sheet s bytes passes out room, length_items))

  zeroed : zeroed_from need itemed ≡ (top ++ rs) ++ (ps ++ behind)
  unfolding zeroed_from
  zeroed =
      zero_behind itemed need (omega (arith, length-sets out header_block (rs ++ ps)))
      ∙ ap (λ (x : Bytes). x ++ zeros (length itemed - need)) items_stored
      ∙ ap (λ (n : ℕ). (top ++ (rs ++ ps)) ++ zeros (n - need)) (length-sets out header_block (rs ++ ps))
      ∙ regroup top rs ps behind

  -- the points that are tallied where they stand now
  held : InRun (length (public_of sheet s).points) (record_length s) (length (ps ++ behind))
  held =
      record {
        long = long sheet s bytes passes;
        few = omega (arith, (sound_part sheet s bytes passes).point_count);
        within = omega (arith, length-append ps behind, length_of_points sheet s bytes passes);
      }

  points_there : points_of (length (public_of sheet s).points) (record_length s) (drop (new_offset (public_of sheet s)) ((top ++ rs) ++ (ps ++ behind))) ≡ (public_of sheet s).points
  points_there =
      rw (drop_at (top ++ rs) (ps ++ behind) (new_offset (public_of sheet s)) (omega (arith, length-append top rs, length_front sheet s bytes passes out room, offset_is sheet s bytes passes)))
      (points_held (length (public_of sheet s).points) (record_length s) (ps ++ behind) held
      ∙ rw (← length_is sheet s bytes passes) (pieces_back (public_of sheet s).carried.record_length (public_of sheet s).points behind (sound_part sheet s bytes passes).points))

  pub written_is : finished_file s need (length (public_of sheet s).points) (length (public_of sheet s).records) itemed ≡ render (public_of sheet s) ++ behind
  unfolding finished_file
  written_is =
      let start : need - length (public_of sheet s).points * record_length s ≡ new_offset (public_of sheet s) = omega (arith, render-length sheet s bytes passes) in
      rw (start, zeroed, points_there) (headed sheet s bytes passes out room)
