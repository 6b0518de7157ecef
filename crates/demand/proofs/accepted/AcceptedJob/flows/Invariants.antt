-- Before section i the places below hold the flows of the sections there, and the others nothing.
-- Assumes nothing.
use Rattle.std.proofs.Common.{◌≡◌, ◌+◌, ◌≤◌}
use Rattle.basis.specs.Slots.{slots}
use Rattle.fields.specs.Fields.{count_of}
use Rattle.demand.specs.Demand.{section_flow}
use Rattle.demand.proofs.accepted.AcceptedJob.flows.Given as goal

abbrev pub invariant-loop-i : goal.invariant-loop-i
invariant-loop-i l = (l.i ≤ count_of l.self.job + 1) × (l.flows ≡ slots 64 1 l.i 0 (section_flow l.self.job))
