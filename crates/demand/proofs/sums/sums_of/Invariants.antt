-- Before each kind the two sums and the tap are those of the kinds before it.
-- Assumes nothing.
use Rattle.std.proofs.Common.{◌≡◌, ◌-◌, ◌*◌, ◌≤◌}
use Rattle.basis.specs.Range.{most_to}
use Rattle.tree.specs.Tree.{served_of}
use Rattle.demand.specs.Demand.{norm_at, share_of, tap_of}
use Rattle.demand.proofs.Partial.{SoFar}
use Rattle.demand.proofs.sums.sums_of.Given as goal

abbrev pub invariant-loop-kind : goal.invariant-loop-kind
invariant-loop-kind l =
    (l.kind ≤ 13) ×
    SoFar (λ k. share_of l.tree.job.now (served_of l.tree.job.now l.i) k) 22547890181250000 l.kind l.sums.m ×
    SoFar (λ k. share_of l.tree.job.now (served_of l.tree.job.now l.i) k * (norm_at l.tree.job.now k).fixture) 676436705437500000 l.kind l.sums.weighted ×
    (l.sums.tap ≡ 10 * most_to (l.kind - 1) (tap_of l.tree.job.now (served_of l.tree.job.now l.i)))
