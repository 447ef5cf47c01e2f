-- Laws of the formats' sizes and places.
-- Assumes nothing.
use mathlib.Core.Path.{◌≡◌, refl}
use Prim.Native.Nat.{ℕ, zero, suc, ◌+◌, ◌≤◌}
use native.Mathlib.Omega.{arith}
use Rattle.std.specs.Prelude.{Option, Some, None}
use Rattle.points.specs.Formats.{format_size, time_place, colour_place, layout_of}

-- format 0 has the shared fields alone
pub plain : (time_place 0 ≡ None) × (colour_place 0 ≡ None)
unfolding time_place colour_place
plain = (refl, refl)

-- ---- GPS time stands behind the shared fields, and colour behind both, where a format has them

-- where the format has the field, it begins after n bytes
abbrev pub Follows : Option ℕ → ℕ → Type 0
Follows None n = Unit {0}
Follows (Some at) n = at ≡ n

-- how many bytes fields of w bytes take at a place
abbrev pub width_if : Option ℕ → ℕ → ℕ
width_if None w = 0
width_if (Some at) w = w

-- what the table of the formats says, format by format: all else is over the place
pub record Layered (f : ℕ) : Type 0 where
  pub time : Follows (time_place f) 20
  pub colour : Follows (colour_place f) (20 + width_if (time_place f) 8)
  pub size : f ≤ 3 → format_size f ≡ 20 + width_if (time_place f) 8 + width_if (colour_place f) 6

pub layered : (f : ℕ) → Layered f
unfolding format_size time_place colour_place
layered zero = record { time = tt; colour = tt; size = λ h. refl }
layered (suc zero) = record { time = refl; colour = tt; size = λ h. refl }
layered (suc (suc zero)) = record { time = tt; colour = refl; size = λ h. refl }
layered (suc (suc (suc zero))) = record { time = refl; colour = refl; size = λ h. refl }
layered (suc (suc (suc (suc f)))) = record { time = tt; colour = tt; size = λ h. absurd (omega arith) }

-- every format has the shared first 20 bytes
pub shared_first : (f : ℕ) → f ≤ 3 → 20 ≤ format_size f
shared_first f h = omega (arith, (layered f).size h)

-- where a format has the field, its record holds it
pub time_held : (f at : ℕ) → f ≤ 3 → time_place f ≡ Some at → at + 8 ≤ format_size f
time_held f at h e =
    let begins : at ≡ 20 = rw e at (layered f).time in
    let size : format_size f ≡ 20 + 8 + width_if (colour_place f) 6 = rw e at ((layered f).size h) in
    omega arith

pub colour_held : (f at : ℕ) → f ≤ 3 → colour_place f ≡ Some at → at + 6 ≤ format_size f
colour_held f at h e =
    let begins : at ≡ 20 + width_if (time_place f) 8 = rw e at (layered f).colour in
    let size : format_size f ≡ 20 + width_if (time_place f) 8 + 6 = rw e at ((layered f).size h) in
    omega arith

-- formats above 3 have no size and no places
pub no_layout : (f : ℕ) → 4 ≤ f → layout_of f ≡ record { size = 0; time = None; colour = None }
unfolding format_size time_place colour_place layout_of
no_layout zero h = absurd (omega arith)
no_layout (suc zero) h = absurd (omega arith)
no_layout (suc (suc zero)) h = absurd (omega arith)
no_layout (suc (suc (suc zero))) h = absurd (omega arith)
no_layout (suc (suc (suc (suc f)))) h = refl
