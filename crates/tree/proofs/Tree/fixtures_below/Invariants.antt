-- The loop of `tree::Tree::fixtures_below`: the sections of the set before `j` are summed.
-- Assumes nothing.
use Rattle.fields.specs.Fields.{count_of, section_of}
use Rattle.tree.specs.Tree.{below}
use Rattle.tree.proofs.Members.{Passed}
use Rattle.tree.proofs.Tree.fixtures_below.Given as goal

abbrev pub invariant-loop-j : goal.invariant-loop-j
invariant-loop-j l = Passed (count_of l.self.job.now) (below l.self.job.now l.i) (λ k. (section_of l.self.job.now k).fixtures) l.j l.sum
