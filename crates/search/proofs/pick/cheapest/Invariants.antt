-- The cheapest of the sizes so far is picked.
-- Assumes nothing.
use Rattle.std.proofs.Common.{◌+◌, ◌≤◌}
use Rattle.rows.specs.Steps.{options_of}
use Rattle.search.proofs.Picks.{Picking}
use Rattle.search.proofs.pick.cheapest.Given as goal

abbrev pub invariant-loop-t : goal.invariant-loop-t
invariant-loop-t l = record {
  within : l.t ≤ l.tables.sizes + 1;
  picking : Picking (options_of l.row l.tables.losses l.tables.costs l.ws l.h) l.t l.best l.size;
}
