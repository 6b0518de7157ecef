-- The lines of the sections so far stand in the text.
-- Assumes nothing.
use Rattle.rated_text.proofs.Figures.{Lined}
use Rattle.rated_text.proofs.put_sections.Given as goal

abbrev pub invariant-loop-number : goal.invariant-loop-number
invariant-loop-number l = Lined l.figures l.initial.text l.number-iterator.a.start l.number-iterator.b.rest.now l.text
