-- Each head has the best of the sizes that the loop has passed.
-- Assumes nothing.
use Rattle.std.proofs.Common.{◌+◌, ◌-◌, ◌≤◌}
use Rattle.rows.specs.Steps.{options_of, Lowest, Flat}
use Rattle.rows.proofs.raise.bests.Given as goal

abbrev pub invariant-loop-t : goal.invariant-loop-t
invariant-loop-t l =
    (l.t ≤ l.tables.sizes + 1) × Lowest l.best l.parent.need (l.parent.high + 1) (l.t - 1) (options_of l.row l.tables.losses l.tables.costs l.ws) ×
    Flat l.best l.parent.need (l.parent.high + 1) l.level.head l.level.cost
