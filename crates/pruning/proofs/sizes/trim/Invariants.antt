-- The tables stay alike, and keep what counts.
-- Assumes nothing.
use Rattle.pruning.proofs.Trims.{Trimming}
use Rattle.pruning.proofs.sizes.trim.Given as goal

abbrev pub invariant-loop-t : goal.invariant-loop-t
invariant-loop-t l = Trimming l.fn.tables l.head l.s l.tables l.last l.t
