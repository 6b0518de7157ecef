-- The parts of the record are written one after another.
-- Assumes nothing.
use Rattle.std.proofs.Common.{◌≡◌, ℕ, ◌+◌, ◌-◌, ◌≤◌, ◌<◌, List, length, get_or, take, drop, arith, rules, length-drop, get_or-drop, get_or-take}
use Rattle.std.proofs.Math.ListN.{length-take}
use Rattle.basis.specs.Range.{concat_to}
use Rattle.basis.proofs.Concat.{concat_ext}
use Rattle.wire.specs.Wire.{bytes_of}
use Rattle.wire.proofs.Rows.{row_concat}
use Rattle.fields.specs.declared.Section.{Section}
use Rattle.fields.specs.declared.Job.{Job}
use Rattle.fields.specs.Fields.{blank_section, count_of}
use Rattle.record.specs.Record.{section_bytes, residents_bytes, sections_bytes}
use Rattle.record.proofs.Lengths.{whole_stored}
use Rattle.encoding.proofs.put_job.Goals as goal

-- the part of the array that is written, and its bytes
module _ (job : Job) (few : count_of job ≤ 63) (long : length job.sections ≡ 64) where
  abbrev row : List Section
  row = take (count_of job + 1 - 1) (drop 1 job.sections)

  row_length : length row ≡ count_of job
  row_length = simp (length-take, length-drop) (omega arith)

  row_written : concat_to (length row) (λ i. section_bytes (get_or row (i - 1) blank_section)) ≡ sections_bytes job
  unfolding sections_bytes
  row_written =
      rw row_length
      (concat_ext (count_of job) _ _
      (λ i a b. let e : 1 + (i - 1) ≡ i = omega arith in
      let within : i - 1 < count_of job + 1 - 1 = omega arith in
      rw (get_or-take (count_of job + 1 - 1) (drop 1 job.sections) (i - 1) blank_section within, get_or-drop 1 job.sections (i - 1) blank_section, e)))

pub put_sections-requires : goal.put_sections-requires
put_sections-requires c =
    let long : length c.args.job.sections ≡ 64 = search rules in
    rw (c.count-count.ensures.is, row_length c.args.job (omega arith) long) (omega arith, omega arith)

pub returns : goal.returns
unfolding residents_bytes
returns c =
    let long : length c.args.job.sections ≡ 64 = search rules in
    let twelve : length c.args.job.residents ≡ 12 = search rules in
    rw (
      c.put_sections.ensures,
      c.count-count.ensures.is,
      row_written c.args.job (omega arith) long,
      c.put_service.ensures,
      c.put_all.ensures,
      row_concat (λ (n : ℕ). bytes_of 2 n) c.args.job.residents 0,
      twelve,
      c.put_header.ensures,
    )
    (whole_stored c.args.job c.args.out.now (omega arith))
