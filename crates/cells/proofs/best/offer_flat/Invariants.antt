-- The cost is offered at each head that the loop has passed.
-- Assumes nothing.
use Rattle.cells.specs.Steps.{Offered}
use Rattle.cells.proofs.Heads.{Left}
use Rattle.cells.proofs.best.offer_flat.Given as goal

abbrev pub invariant-loop-h : goal.invariant-loop-h
invariant-loop-h l =
    Left l.fn.heads l.h-iterator ×
    Offered l.initial.best l.best l.fn.heads.start l.h-iterator.start (λ h. l.cost)
