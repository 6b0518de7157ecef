-- The losses so far pass 19 and stand at their places.
-- Assumes nothing.
use Rattle.std.proofs.Common.{◌+◌}
use Rattle.lent_losses.proofs.Listed.{Listed}
use Rattle.lent_losses.proofs.read_losses.Given as goal

abbrev pub invariant-loop-i : goal.invariant-loop-i
invariant-loop-i l = Listed l.given l.losses (l.i + 1)
