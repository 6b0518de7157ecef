-- One section more is written at its place.
-- Assumes nothing.
use Rattle.std.proofs.Common.{◌≡◌, ◌+◌, ◌-◌, get_or, arith, ◌∙◌}
use Rattle.basis.proofs.Concat.{concat_stored}
use Rattle.fields.specs.Fields.{blank_section}
use Rattle.record.specs.Record.{sections_from, section_bytes}
use Rattle.record.proofs.Lengths.{section_length}
use Rattle.encoding.proofs.put_sections.Goals as goal

pub loop-i-preserved : goal.loop-i-preserved
loop-i-preserved c =
    let less : c.loop-i.i + 1 - 1 ≡ c.loop-i.i = omega arith in
    let more = rw less at (concat_stored 10 (λ i. section_bytes (get_or c.args.sections.now (i - 1) blank_section)) (λ i. section_length _) c.args.out.now (sections_from c.args.version) (c.loop-i.i + 1) (omega arith) (omega arith)) in
    c.put_section.ensures ∙ rw (c.loop-i.invariant, c.place_of.ensures.0, less) more
