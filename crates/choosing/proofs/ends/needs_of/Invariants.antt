-- The places of the sections so far hold what their ends need.
-- Assumes nothing.
use Rattle.std.proofs.Common.{◌+◌, ◌≤◌}
use Rattle.fields.specs.Fields.{count_of}
use Rattle.choosing.proofs.Placed.{Placed}
use Rattle.choosing.proofs.Entries.{NeedAt}
use Rattle.choosing.proofs.ends.needs_of.Given as goal

abbrev pub invariant-loop-i : goal.invariant-loop-i
invariant-loop-i l = record { within : l.i ≤ count_of l.accepted.job + 1; placed : Placed (NeedAt l.accepted.job) l.i l.needs }
