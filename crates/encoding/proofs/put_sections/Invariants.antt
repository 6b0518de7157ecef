-- The sections so far stand in the buffer.
-- Assumes nothing.
use Rattle.std.proofs.Common.{◌≡◌, ◌-◌, get_or}
use Rattle.basis.specs.Range.{concat_to}
use Rattle.basis.specs.Stored.{stored}
use Rattle.fields.specs.Fields.{blank_section}
use Rattle.record.specs.Record.{sections_from, section_bytes}
use Rattle.encoding.proofs.put_sections.Given as goal

abbrev pub invariant-loop-i : goal.invariant-loop-i
invariant-loop-i l =
    l.out ≡ stored l.fn.out (sections_from l.version) (concat_to l.i (λ i. section_bytes (get_or l.sections (i - 1) blank_section)))
