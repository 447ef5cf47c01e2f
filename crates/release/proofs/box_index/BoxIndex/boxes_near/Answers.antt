-- `box_index::BoxIndex::boxes_near` meets its contract. Assumes nothing.
use lib.Bits.{bit_and}
use mir.Syntax.{w32}
use mir.ValLaws.{to_z-of_z}
use Rattle.release.specs.BoxIndex.{HasBit}
use Rattle.release.proofs.box_index.BitLaws.{and_bit}
use Rattle.release.proofs.box_index.BoxIndex.boxes_near.Goals as goal

pub returns : goal.returns
returns c = λ j in_x in_y in_z.
    let a = c.args in
    let told = c.struct_told-1.given in
    let x : HasBit j c.boxes_at.result = rw (c.boxes_at.ensures, to_z-of_z w32 a.p.x (record { sfits = told.0.1 })) in_x in
    let y : HasBit j c.boxes_at-2.result = rw (c.boxes_at-2.ensures, to_z-of_z w32 a.p.y (record { sfits = told.1.0.1 })) in_y in
    let z : HasBit j c.boxes_at-3.result = rw (c.boxes_at-3.ensures, to_z-of_z w32 a.p.z (record { sfits = told.1.1.0.1 })) in_z in
    and_bit j (bit_and c.boxes_at.result c.boxes_at-2.result) c.boxes_at-3.result
    (and_bit j c.boxes_at.result c.boxes_at-2.result x y) z
