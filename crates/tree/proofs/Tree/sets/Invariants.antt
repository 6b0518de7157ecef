-- The loop of `tree::Tree::sets`: the sections above `t` are taken.
-- Assumes nothing.
use Rattle.tree.proofs.Upward.{Joined}
use Rattle.tree.proofs.Tree.sets.Given as goal

abbrev pub invariant-loop-t : goal.invariant-loop-t
invariant-loop-t l = Joined l.self.job.now l.t l.sets
