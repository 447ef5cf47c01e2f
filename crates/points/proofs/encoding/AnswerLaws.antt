-- Laws of what encoding gives: each answer under its test.
-- Assumes nothing.
use mathlib.Core.Path.{◌≡◌}
use Prim.Native.Nat.{ℕ}
use mathlib.Core.Bool.{Bool, true, false, not}
use mathlib.Core.List.{[], ◌∷◌}
use lib.ListN.{length}
use lib.Seq.{sets}
use lib.Dec.{T}
use Rattle.fields.specs.Bytes.{Bytes}
use Rattle.fields.specs.Checks.{fails, first_failing, Passes, Fails}
use Rattle.fields.proofs.CheckLaws.{gives, goes_on}
use Rattle.points.specs.declared.Point.{Point}
use Rattle.points.specs.Points.{shape}
use Rattle.points.proofs.AnswerLaws.{not_shaped, shaped}
use Rattle.points.specs.Encoding.{large, encode_checks, stored_if, encoded, point_bytes}

module _ (f len : ℕ) (q : Point) (room : Bytes) where
  pub stored : T (not (fails (shape f len (length room)))) → T (not (fails (large f q))) → encoded f len q room ≡ (Passes, sets room 0 (point_bytes f q))
  unfolding encoded encode_checks stored_if first_failing
  stored h k = rw (goes_on 12 (shape f len (length room)) ((13, large f q) ∷ []) h, goes_on 13 (large f q) [] k)

  -- as the code tests it
  module _ (r : Bool) (e : r ≡ not (fails (shape f len (length room)))) where
    pub refused_12 : not r ≡ true → encoded f len q room ≡ (Fails 12, room)
    unfolding encoded encode_checks stored_if
    refused_12 h = rw (gives 12 (shape f len (length room)) ((13, large f q) ∷ []) (not_shaped r (fails (shape f len (length room))) e h))

    pub refused_13 : not r ≡ false → fails (large f q) ≡ true → encoded f len q room ≡ (Fails 13, room)
    unfolding encoded encode_checks stored_if
    refused_13 h k =
        rw (goes_on 12 (shape f len (length room)) ((13, large f q) ∷ []) (shaped r (fails (shape f len (length room))) e h), gives 13 (large f q) [] (rw k tt))

    pub stored_by : not r ≡ false → fails (large f q) ≡ false → encoded f len q room ≡ (Passes, sets room 0 (point_bytes f q))
    stored_by h k = stored (shaped r (fails (shape f len (length room))) e h) (rw k tt)
