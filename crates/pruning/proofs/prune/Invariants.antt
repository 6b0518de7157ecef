-- The tables so far keep what counts.
-- Assumes nothing.
use Rattle.pruning.specs.Steps.{Pruned}
use Rattle.pruning.proofs.prune.Given as goal

abbrev pub invariant-loop-s : goal.invariant-loop-s
invariant-loop-s l = Pruned l.fn.tables l.head l.tables
