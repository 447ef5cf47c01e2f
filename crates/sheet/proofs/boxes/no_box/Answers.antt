-- `boxes::no_box` meets its contract. Assumes nothing.
use Rattle.sheet.proofs.boxes.no_box.Goals as goal

pub returns : goal.returns
returns c = rw c.count.ensures.0
