-- The loop of `tree::singles`: the sections before `j` have their bit.
-- Assumes nothing.
use Rattle.std.proofs.Common.{◌+◌, ◌-◌, ◌≤◌}
use Rattle.tree.specs.Rows.{Singles}
use Rattle.tree.proofs.singles.Given as goal

abbrev pub invariant-loop-j : goal.invariant-loop-j
invariant-loop-j l = (l.j ≤ l.count + 1) × Singles (l.j - 1) l.sets
