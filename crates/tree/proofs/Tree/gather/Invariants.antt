-- The loop of `tree::Tree::gather`: the sections above `t` are taken.
-- Assumes nothing.
use Rattle.tree.proofs.Upward.{Summed}
use Rattle.tree.proofs.Tree.gather.Given as goal

abbrev pub invariant-loop-t : goal.invariant-loop-t
invariant-loop-t l = Summed l.self.job.now l.t l.n
