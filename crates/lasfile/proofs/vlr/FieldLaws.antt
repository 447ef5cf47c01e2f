-- What a record says, by the bytes that it begins, and by its place in a file.
-- Assumes nothing.
use mathlib.Core.Path.{◌≡◌, refl, ap, ◌∙◌}
use Prim.Native.Nat.{ℕ, ◌+◌}
use lib.ListN.{drop}
use Rattle.fields.specs.Bytes.{Bytes, part, num}
use Rattle.fields.specs.Text.{cut}
use Rattle.fields.proofs.ByteLaws.{part-drop}
use Rattle.lasfile.specs.Records.{front_size, payload_length, record_of, record_at, size_of}

module _ (lw : ℕ) (s : Bytes) where
  pub user_of : (record_of lw s).user ≡ cut (part 2 16 s)
  unfolding record_of
  user_of = refl

  pub id_of : (record_of lw s).id ≡ num (part 18 2 s)
  unfolding record_of
  id_of = refl

  pub description_of : (record_of lw s).description ≡ cut (part (20 + lw) 32 s)
  unfolding record_of
  description_of = refl

  pub payload_of : (record_of lw s).payload ≡ part (front_size lw) (payload_length lw s) s
  unfolding record_of
  payload_of = refl

  pub length_of : payload_length lw s ≡ num (part 20 lw s)
  unfolding payload_length
  length_of = refl

  -- its header and its payload
  pub size_of_lem : size_of lw s ≡ front_size lw + payload_length lw s
  unfolding size_of
  size_of_lem = refl

module _ (lw : ℕ) (s : Bytes) (at : ℕ) where
  pub user_at : (record_at lw s at).user ≡ cut (part (at + 2) 16 s)
  user_at = user_of lw (drop at s) ∙ ap cut (part-drop at 2 16 s)

  pub id_at : (record_at lw s at).id ≡ num (part (at + 18) 2 s)
  id_at = id_of lw (drop at s) ∙ ap num (part-drop at 18 2 s)

  pub description_at : (record_at lw s at).description ≡ cut (part (at + (20 + lw)) 32 s)
  description_at = description_of lw (drop at s) ∙ ap cut (part-drop at (20 + lw) 32 s)

  pub record_at-payload : (record_at lw s at).payload ≡ part (at + front_size lw) (payload_length lw (drop at s)) s
  record_at-payload = payload_of lw (drop at s) ∙ part-drop at (front_size lw) (payload_length lw (drop at s)) s

  pub length_at : payload_length lw (drop at s) ≡ num (part (at + 20) lw s)
  length_at = length_of lw (drop at s) ∙ ap num (part-drop at 20 lw s)
