-- The sections below the next one are read, and the others are blank.
-- Assumes nothing.
use Rattle.std.proofs.Common.{◌≡◌, ◌≤◌, ◌+◌}
use Rattle.basis.specs.Slots.{slots}
use Rattle.fields.specs.Fields.{blank_section}
use Rattle.record.specs.Record.{section_at}
use Rattle.decoding.proofs.sections_of.Given as goal

abbrev pub invariant-loop-i : goal.invariant-loop-i
invariant-loop-i l = (l.i ≤ l.count + 1) × (l.sections ≡ slots 64 1 l.i blank_section (section_at l.b))
