-- The sections that the loop has passed are in their parents' rows.
-- Assumes nothing.
use Rattle.std.proofs.Common.{◌≡◌, ◌≤◌, length}
use Rattle.rows.specs.Rows.{FilledTo}
use Rattle.rows.proofs.filling.Rows.fill.Given as goal

abbrev pub invariant-loop-s : goal.invariant-loop-s
invariant-loop-s l =
    (l.s ≤ l.self.tables.now.sections) × (length l.ws ≡ length l.initial.ws) × FilledTo l.self l.ws l.begun l.s
