-- The pump's cell says whether a list suits, and the list is read back where one does.
-- Assumes nothing.
use Rattle.std.proofs.Common.{arith}
use Rattle.search.proofs.Pump.{pump_none, pump_some, pump_found}
use Rattle.search.proofs.cheapest_list.Goals as goal

pub returns-then-cost : goal.returns-then-cost
returns-then-cost c = pump_none c.args.tables.now.sound c.high_of-highs.ensures c.fill.ensures.held c.requires.pump c.get-cost.ensures.0 (omega arith)

pub recover-sizes-requires-clause-some : goal.recover-sizes-requires-clause-some
recover-sizes-requires-clause-some c = pump_some c.args.tables.now.sound c.high_of-highs.ensures c.fill.ensures.held c.requires.pump c.get-cost.ensures.0 (λ e. omega arith)

pub returns : goal.returns
returns c = pump_found c.args.tables.now.sound c.high_of-highs.ensures c.fill.ensures.held c.requires.pump c.get-cost.ensures.0 c.recover-sizes.ensures
