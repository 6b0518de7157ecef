-- The loop of `tree::parents_of`: the places of the sections below `i` hold their parents.
-- Assumes nothing.
use Rattle.std.proofs.Common.{◌≡◌, ◌+◌, ◌≤◌}
use Rattle.basis.specs.Slots.{slots}
use Rattle.fields.specs.Fields.{count_of}
use Rattle.tree.specs.Tree.{parent_of}
use Rattle.tree.proofs.parents_of.Given as goal

abbrev pub invariant-loop-i : goal.invariant-loop-i
invariant-loop-i l = (l.i ≤ count_of l.job + 1) × (l.parents ≡ slots 64 1 l.i 0 (parent_of l.job))
