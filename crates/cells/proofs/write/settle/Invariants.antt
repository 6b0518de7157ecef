-- The cells that the loop has passed are 0.
-- Assumes nothing.
use Rattle.cells.specs.Steps.{Filled}
use Rattle.cells.proofs.Heads.{Left}
use Rattle.cells.proofs.write.settle.Given as goal

abbrev pub invariant-loop-h : goal.invariant-loop-h
invariant-loop-h l =
    Left l.fn.heads l.h-iterator ×
    Filled l.initial.ws l.ws l.up l.fn.heads.start l.h-iterator.start (λ h. 0)
