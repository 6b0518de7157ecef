-- `demand::accepted::AcceptedJob::house_flow` meets its contract: row 0 of the counts is the house.
-- Assumes nothing.
use Rattle.std.proofs.Common.{◌∙◌}
use Rattle.tree.specs.Tree.{served_of}
use Rattle.demand.proofs.Validity.{valid_rooted}
use Rattle.demand.proofs.Deciding.{house_flow_lem}
use Rattle.demand.proofs.DesignFlows.{flow_by}
use Rattle.demand.proofs.accepted.AcceptedJob.house_flow.Goals as goal

pub returns : goal.returns
returns c =
    let job = c.args.self.now.job in
    flow_by job (served_of job 0) c.sums_of.ensures c.flow.ensures ∙ house_flow_lem (valid_rooted c.args.self.now.accepted.valid)
