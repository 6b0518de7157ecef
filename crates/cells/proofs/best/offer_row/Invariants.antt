-- The size is offered at each head that the loop has passed.
-- Assumes nothing.
use Rattle.std.proofs.Common.{◌+◌, ◌-◌}
use Rattle.cells.specs.Cells.{cell_at}
use Rattle.cells.specs.Steps.{Offered}
use Rattle.cells.proofs.Heads.{Left}
use Rattle.cells.proofs.best.offer_row.Given as goal

abbrev pub invariant-loop-h : goal.invariant-loop-h
invariant-loop-h l =
    Left l.fn.heads l.h-iterator ×
    Offered l.initial.best l.best l.fn.heads.start l.h-iterator.start (λ h. l.cost + cell_at l.ws (l.row + (h - l.loss)))
