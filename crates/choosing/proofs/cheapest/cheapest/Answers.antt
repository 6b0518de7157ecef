-- What the search finds in the tables is what document 01 promises.
-- Assumes nothing.
use Rattle.choosing.proofs.Promised.{chosen_suitable}
use Rattle.choosing.proofs.cheapest.cheapest.Goals as goal

pub returns : goal.returns
returns c = chosen_suitable c.tables_of.ensures c.args.accepted.now.accepted.valid c.args.delivered c.choose.result (rw c.from-meter.ensures at c.choose.ensures)
