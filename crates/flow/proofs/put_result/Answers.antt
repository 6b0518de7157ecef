-- The house's flows are written, and then the sections'.
-- Assumes nothing.
use Rattle.std.proofs.Common.{◌≡◌, ℕ, ◌+◌, ◌-◌, ◌≤◌, List, length, arith, refl, ◌∙◌, length-drop}
use Rattle.std.proofs.Math.ListN.{length-take}
use Rattle.std.specs.List.{flat_map}
use Rattle.basis.specs.Part.{part}
use Rattle.basis.proofs.Part.{part_at}
use Rattle.basis.specs.Range.{concat_to}
use Rattle.basis.specs.Slots.{slots}
use Rattle.basis.proofs.Concat.{concat_ext}
use Rattle.basis.proofs.Slots.{slots_length, slots_in}
use Rattle.basis.proofs.Stored.{stored_next}
use Rattle.wire.specs.Wire.{bytes_of}
use Rattle.wire.proofs.Rows.{row_concat}
use Rattle.fields.specs.declared.Job.{Job}
use Rattle.fields.specs.Fields.{count_of}
use Rattle.demand.specs.Demand.{section_flow}
use Rattle.demand.proofs.Validity.{valid_count}
use Rattle.flow.specs.Calls.{house_bytes, flow_bytes}
use Rattle.flow.proofs.put_result.Goals as goal

-- the sections' part of the flows, and their bytes
module _ (job : Job) (few : count_of job ≤ 63) where
  abbrev row : List ℕ
  row = part (slots 64 1 (count_of job + 1) 0 (section_flow job)) 1 (count_of job + 1 - 1)

  row_length : length row ≡ count_of job
  row_length = simp (length-take, length-drop, slots_length) (omega arith)

  row_written : flat_map (λ n. bytes_of 4 n) row ≡ concat_to (count_of job) (λ i. bytes_of 4 (section_flow job i))
  row_written =
      row_concat (λ n. bytes_of 4 n) row 0 ∙
      rw row_length
      (concat_ext (count_of job) _ _
      (λ i a b. let e : 1 + (i - 1) ≡ i = omega arith in
      rw (
        part_at (slots 64 1 (count_of job + 1) 0 (section_flow job)) 1 (count_of job + 1 - 1) (i - 1) (omega arith),
        e,
        slots_in 64 1 (count_of job + 1) 0 (section_flow job) i 0 (omega arith) (omega arith) (omega arith),
      )))

pub put_all-requires : goal.put_all-requires
put_all-requires c =
    let few = (valid_count c.args.accepted.now.accepted.valid).high in
    rw (c.count-count.ensures.is, c.flows-flows.ensures, row_length c.args.accepted.now.job few) (omega arith)

pub returns : goal.returns
unfolding flow_bytes house_bytes bytes_of
returns c =
    rw (
      c.put_all.ensures,
      c.count-count.ensures.is,
      c.flows-flows.ensures,
      row_written c.args.accepted.now.job (valid_count c.args.accepted.now.accepted.valid).high,
      c.put_house.ensures,
      c.mean.ensures,
      c.day.ensures,
      c.hour.ensures,
      stored_next c.args.out.now 0 _ 12 _ refl (omega arith),
    )
