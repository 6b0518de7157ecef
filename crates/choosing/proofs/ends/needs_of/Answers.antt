-- Each turn writes one section's.
-- Assumes nothing.
use Rattle.std.proofs.Common.{arith}
use Rattle.rules.proofs.Kept.{sections_in}
use Rattle.demand.proofs.Validity.{valid_count, valid_sections}
use Rattle.choosing.proofs.Placed.{placed_more}
use Rattle.choosing.proofs.Entries.{NeedAt}
use Rattle.choosing.proofs.ends.needs_of.Goals as goal

pub bounds-job-i : goal.bounds-job-i
bounds-job-i c = omega (arith, (valid_count c.args.accepted.now.accepted.valid).high)

pub bounds-needs-i : goal.bounds-needs-i
bounds-needs-i c = omega (arith, (valid_count c.args.accepted.now.accepted.valid).high)

pub need-requires : goal.need-requires
need-requires c = (sections_in c.args.accepted.now.job (valid_sections c.args.accepted.now.accepted.valid) c.loop-i.i (omega arith) (omega arith)).elevation

pub loop-i-preserved : goal.loop-i-preserved
loop-i-preserved c =
    record {
      within = omega arith;
      placed = placed_more (NeedAt c.args.accepted.now.job) c.loop-i.i c.loop-i.needs _ (omega (arith, (valid_count c.args.accepted.now.accepted.valid).high)) c.loop-i.invariant.placed c.need.ensures;
    }

pub returns-2 : goal.returns-2
returns-2 c =
    let placed = placed_more (NeedAt c.args.accepted.now.job) c.loop-i.i c.loop-i.needs _ (omega (arith, (valid_count c.args.accepted.now.accepted.valid).high)) c.loop-i.invariant.placed c.need.ensures in
    record { need = λ i h k. placed.at i h (omega arith) }
