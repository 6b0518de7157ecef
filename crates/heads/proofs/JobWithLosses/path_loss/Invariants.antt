-- The walk to the pump: its invariant is the request's sentence, `AtTurn`, and each turn's section has a lower number.
-- Assumes nothing.
use Rattle.std.proofs.Common.{◌≤◌, get_or}
use Rattle.tree.specs.Tree.{parent_of}
use Rattle.heads.specs.Walk.{AtTurn}
use Rattle.heads.proofs.JobWithLosses.path_loss.Given as goal

abbrev pub invariant-loop-at : goal.invariant-loop-at
invariant-loop-at l = (l.at ≤ l.section) × (l.section ≤ 63) × AtTurn (parent_of l.self.job.now) (λ i. get_or l.self.losses i 0) l.section l.sum l.at

abbrev pub decreases-loop-at : goal.decreases-loop-at
decreases-loop-at l = l.at
