-- The bytes of the sections so far stand in the buffer.
-- Assumes nothing.
use Rattle.basis.proofs.Runs.{Running}
use Rattle.rated_bytes.proofs.Figures.{row}
use Rattle.rated_bytes.proofs.put_sections.Given as goal

abbrev pub invariant-loop-i : goal.invariant-loop-i
invariant-loop-i l = Running (row l.figures l.layout.each) l.fn.out l.layout.front l.i l.out
