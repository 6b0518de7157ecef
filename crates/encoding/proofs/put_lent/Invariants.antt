-- The bytes so far stand in the buffer.
-- Assumes nothing.
use Rattle.std.proofs.Common.{◌≡◌, take}
use Rattle.basis.specs.Stored.{stored}
use Rattle.encoding.proofs.put_lent.Given as goal

abbrev pub invariant-loop-k : goal.invariant-loop-k
invariant-loop-k l = l.out ≡ stored l.fn.out l.at (take l.k l.b)
