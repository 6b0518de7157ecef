-- Before each kind the two sums are those of the kinds before it.
-- Assumes nothing.
use Rattle.std.proofs.Common.{◌*◌, ◌≤◌}
use Rattle.demand.specs.Demand.{norm_at, hour_share_of}
use Rattle.demand.proofs.Partial.{SoFar}
use Rattle.demand.proofs.sums.hour_sums.Given as goal

abbrev pub invariant-loop-kind : goal.invariant-loop-kind
invariant-loop-kind l =
    (l.kind ≤ 13) ×
    SoFar (λ k. hour_share_of l.job k) 32767500000 l.kind l.sums.shares ×
    SoFar (λ k. hour_share_of l.job k * (norm_at l.job k).hourly) 9830250000000 l.kind l.sums.weighted
