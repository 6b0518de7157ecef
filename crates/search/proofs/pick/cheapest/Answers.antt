-- Each turn picks the size or keeps the one before.
-- Assumes nothing.
use Rattle.std.proofs.Common.{◌+◌, rules, arith}
use Rattle.rows.specs.Steps.{options_of}
use Rattle.search.proofs.Picks.{Picking, picking_none, picking_more, picking_kept, picking_most}
use Rattle.search.proofs.pick.cheapest.Goals as goal
use Rattle.search.proofs.pick.cheapest.Goals.{Joined-cost-best, then-cost-best, else-cost-best}

pub loop-t-init : goal.loop-t-init
loop-t-init c = record { within = omega arith; picking = rw c.from-best.ensures picking_none }

turned : (c : Joined-cost-best) →
    Picking (options_of c.args.row c.args.tables.now.losses c.args.tables.now.costs c.args.ws.now c.args.h) (c.loop-t.t + 1) c.if-cost-best.best c.if-cost-best.size
turned c =
    let i = c.loop-t.invariant.picking in
    let v = c.cost_at-cost.ensures in
    elim c.if-cost-best.branch [
      | then-cost-best w ↦ picking_more i (omega arith) v (picking_most i (omega arith) v) (omega arith) w.best-is (search rules)
      | else-cost-best w ↦ picking_kept i (omega arith) v (omega arith) w.best-is w.size-is
    ]

pub loop-t-preserved : goal.loop-t-preserved
loop-t-preserved c = record { within = omega arith; picking = turned (goal.at.loop-t-preserved c).Joined-cost-best }

pub returns-after-cost-best : goal.returns-after-cost-best
returns-after-cost-best c = (turned (goal.at.returns-after-cost-best c).Joined-cost-best).pick c.args.tables.now.sizes (omega arith)
