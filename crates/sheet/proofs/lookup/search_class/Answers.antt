-- `lookup::search_class` meets its contract. Assumes nothing.
use Rattle.sheet.proofs.lookup.search_class.Goals as goal

pub returns : goal.returns
returns c = c.search.ensures
