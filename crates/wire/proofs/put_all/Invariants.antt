-- The numbers so far stand in the buffer.
-- Assumes nothing.
use Rattle.std.proofs.Common.{◌≡◌, take}
use Rattle.std.specs.List.{flat_map}
use Rattle.basis.specs.Stored.{stored}
use Rattle.wire.specs.Wire.{bytes_of}
use Rattle.wire.proofs.put_all.Given as goal

abbrev pub invariant-loop-i : goal.invariant-loop-i
invariant-loop-i g l = l.s ≡ stored l.fn.s l.fn.from (flat_map (λ number. bytes_of g.T.Field.WIDTH (g.T.Field.bits number)) (take l.i l.fn.numbers))
