-- The loop of `tree::Tree::fill`: the sections before `j` have their fixtures.
-- Assumes nothing.
use Rattle.std.proofs.Common.{◌+◌, ◌-◌, ◌≤◌}
use Rattle.fields.specs.Fields.{count_of}
use Rattle.tree.specs.Rows.{Owned}
use Rattle.tree.proofs.Tree.fill.Given as goal

abbrev pub invariant-loop-j : goal.invariant-loop-j
invariant-loop-j l = (l.j ≤ count_of l.self.job.now + 1) × Owned l.self.job.now (l.j - 1) l.n
