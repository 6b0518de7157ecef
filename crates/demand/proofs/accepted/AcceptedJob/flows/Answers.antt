-- `demand::accepted::AcceptedJob::flows` meets its contract: a section's flow is put at its place.
-- Assumes nothing.
use Rattle.std.proofs.Common.{◌≡◌, ◌+◌, arith, ap, ◌∙◌}
use Rattle.std.proofs.Math.ListN.{set}
use Rattle.basis.specs.Slots.{slots}
use Rattle.basis.proofs.Slots.{slots_none, slots_more}
use Rattle.fields.specs.Fields.{count_of}
use Rattle.tree.specs.Tree.{served_of}
use Rattle.demand.specs.Demand.{section_flow}
use Rattle.demand.proofs.Validity.{valid_count}
use Rattle.demand.proofs.DesignFlows.{flow_by}
use Rattle.demand.proofs.accepted.AcceptedJob.flows.Goals as goal
use Rattle.demand.proofs.accepted.AcceptedJob.flows.Goals.{After-flow}

pub loop-i-init : goal.loop-i-init
loop-i-init c = (omega arith, slots_none 64 1 0 _)

-- one section more
more : (c : After-flow) → set c.loop-i.flows c.loop-i.i c.flow.result ≡ slots 64 1 (c.loop-i.i + 1) 0 (section_flow c.args.self.now.job)
more c =
    let job = c.args.self.now.job in
    let i = c.loop-i.i in
    rw (c.loop-i.invariant.1, flow_by job (served_of job i) c.sums_of.ensures c.flow.ensures)
    (slots_more 64 1 i 0 (section_flow job) (omega arith) (omega (arith, valid_count c.args.self.now.accepted.valid)))

pub loop-i-preserved : goal.loop-i-preserved
loop-i-preserved c = (omega arith, more (goal.at.loop-i-preserved c).After-flow)

pub returns-2 : goal.returns-2
returns-2 c =
    let last : c.loop-i.i ≡ count_of c.args.self.now.job = omega arith in
    more (goal.at.returns-2 c).After-flow ∙ ap (λ n. slots 64 1 (n + 1) 0 (section_flow c.args.self.now.job)) last
