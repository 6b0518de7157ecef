-- The costs are written to the cells that the loop has passed.
-- Assumes nothing.
use Rattle.std.proofs.Common.{get_or}
use Rattle.cells.specs.Steps.{Filled}
use Rattle.cells.proofs.Heads.{Left}
use Rattle.cells.proofs.write.place.Given as goal

abbrev pub invariant-loop-h : goal.invariant-loop-h
invariant-loop-h l =
    Left l.fn.heads l.h-iterator ×
    Filled l.initial.ws l.ws l.up l.fn.heads.start l.h-iterator.start (λ h. get_or l.best h 0)
