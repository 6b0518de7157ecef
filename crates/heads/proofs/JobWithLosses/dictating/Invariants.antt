-- The best is that of the sections before this one.
-- Assumes nothing.
use Rattle.std.proofs.Common.{◌+◌, ◌-◌, ◌≤◌, get_or}
use Rattle.fields.specs.Fields.{count_of}
use Rattle.heads.specs.Heads.{reach_of}
use Rattle.heads.proofs.Best.{Best}
use Rattle.heads.proofs.JobWithLosses.dictating.Given as goal

abbrev pub invariant-loop-section : goal.invariant-loop-section
invariant-loop-section l =
    (l.section ≤ count_of l.self.job.now + 1) ×
    Best (reach_of l.self.job.now (λ i. get_or l.self.losses i 0)) (l.section - 1) l.best.reach l.best.section
