-- `scaling::Scaling::bounds_of` meets its contract. Assumes nothing.
use mathlib.Core.Path.{refl}
use mir.Syntax.{w32}
use mir.ValLaws.{to_z-of_z}
use Rattle.scaling.specs.Scaling.{coordinate_bits, coordinates_of, bounds_of}
use Rattle.scaling.proofs.Scaling.bounds_of.Goals as goal

pub returns : goal.returns
unfolding bounds_of coordinates_of coordinate_bits
returns c =
    let g = c.struct_told-3-1.given in
    let a = c.args in
    simp (
      c.bits_of.ensures,
      c.bits_of-2.ensures,
      c.bits_of-3.ensures,
      c.bits_of-4.ensures,
      c.bits_of-5.ensures,
      c.bits_of-6.ensures,
      c.coordinates-max.ensures,
      c.coordinates-min.ensures,
      to_z-of_z w32 a.e.max_x (record { sfits = g.0.1 }),
      to_z-of_z w32 a.e.min_x (record { sfits = g.1.0.1 }),
      to_z-of_z w32 a.e.max_y (record { sfits = g.1.1.0.1 }),
      to_z-of_z w32 a.e.min_y (record { sfits = g.1.1.1.0.1 }),
      to_z-of_z w32 a.e.max_z (record { sfits = g.1.1.1.1.0.1 }),
      to_z-of_z w32 a.e.min_z (record { sfits = g.1.1.1.1.1.0.1 }),
    )
    (refl {a = bounds_of a.self a.e})
