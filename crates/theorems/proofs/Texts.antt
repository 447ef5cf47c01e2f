-- The theorems on texts, by the laws beside the cut. Assumes nothing.
use mathlib.Core.Path.{◌≡◌, refl, ap, subst, ◌∙◌}
use mathlib.Core.List.{[], ◌∷◌, ◌++◌}
use lib.ListN.{replicate}
use Rattle.fields.specs.Bytes.{Bytes}
use Rattle.fields.specs.Lists.{All}
use Rattle.fields.specs.Text.{cut}
use Rattle.fields.proofs.TextLaws.{Clean, clean_cut, cut_clean, cut_itself, cut_spaces, cut_blank, left_by_cut, cut-padded}
use Rattle.theorems.specs.Texts.{Plain, IsCut, Texts}

-- ---- plain texts, byte by byte

to_clean : (u : Bytes) → All (λ b. b ≡ 0 → ⊥) u → ((v : Bytes) → u ≡ v ++ 32 ∷ [] → ⊥) → Clean u
to_clean [] z s = tt
to_clean (b ∷ []) z s = (z.0, λ e. s [] (ap (λ c. c ∷ []) e))
to_clean (b ∷ c ∷ cs) z s = (z.0, to_clean (c ∷ cs) z.1 (λ v e. s (b ∷ v) (ap (λ (r : Bytes). b ∷ r) e)))

clean : (u : Bytes) → Plain u → Clean u
clean u p = to_clean u p.no_zero p.no_space_last

none_zero : (u : Bytes) → Clean u → All (λ b. b ≡ 0 → ⊥) u
none_zero [] h = tt
none_zero (b ∷ []) h = (h.0, tt)
none_zero (b ∷ c ∷ cs) h = (h.0, none_zero (c ∷ cs) h.1)

none_last : (v : Bytes) → Clean (v ++ 32 ∷ []) → ⊥
none_last [] h = h.1 refl
none_last (b ∷ []) h = h.1.1 refl
none_last (b ∷ c ∷ cs) h = none_last (c ∷ cs) h.1

pub plain : (u : Bytes) → Clean u → Plain u
plain u h = record { no_zero = none_zero u h; no_space_last = λ v e. none_last v (subst Clean e h) }

-- ---- the theorems

found : (t : Bytes) → IsCut t (cut t)
found t =
    let l = left_by_cut t in
    record { spaces = l.spaces; rest = l.rest; whole = l.whole; zero_first = l.zero_first; plain = plain (cut t) (clean_cut t) }

back : (t u : Bytes) → IsCut t u → cut t ≡ u
back t u h =
    ap cut h.whole ∙ cut_clean u (replicate h.spaces 32 ++ h.rest) (clean u h.plain) (cut_spaces h.spaces h.rest h.zero_first)

pub texts : Texts
texts =
    record {
      is_cut = λ t u. (λ e. subst (IsCut t) e (found t), back t u);
      twice = λ t. cut_itself (cut t) (clean_cut t);
      padded_back = λ n t. cut-padded n t;
      no_inner_zero = λ u w p h. cut_clean u w (clean u p) (cut_blank w h);
    }
