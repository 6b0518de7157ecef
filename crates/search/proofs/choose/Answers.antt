-- What is found in the pruned tables holds of those that were given.
-- Assumes nothing.
use Rattle.search.proofs.Pruned.{kept}
use Rattle.search.proofs.choose.Goals as goal

pub returns : goal.returns
returns c = kept c.in_ok-pruned.ensures c.cheapest_list.result c.cheapest_list.ensures
