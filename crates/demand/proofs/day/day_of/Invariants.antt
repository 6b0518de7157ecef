-- Before each kind the day is the sum of the kinds before it.
-- Assumes nothing.
use Rattle.std.proofs.Common.{◌*◌, ◌≤◌}
use Rattle.fields.specs.Fields.{residents_of}
use Rattle.demand.specs.Demand.{norm_at}
use Rattle.demand.proofs.Partial.{SoFar}
use Rattle.demand.proofs.day.day_of.Given as goal

abbrev pub invariant-loop-kind : goal.invariant-loop-kind
invariant-loop-kind l = (l.kind ≤ 13) × SoFar (λ k. (norm_at l.job k).day * residents_of l.job k) 26214000 l.kind l.day
