-- `demand::accepted::AcceptedJob::hour` meets its contract: the product with α fits 64 bits.
-- Assumes nothing.
use Rattle.std.proofs.Common.{◌*◌, ◌≤◌, arith}
use Rattle.demand.proofs.Totals.{hour_sum_pos, hour_sum_top}
use Rattle.demand.proofs.DesignFlows.{hour_product}
use Rattle.demand.proofs.accepted.AcceptedJob.hour.Goals as goal
use Rattle.demand.proofs.accepted.AcceptedJob.hour.Goals.{After-from-alpha}

product : (c : After-from-alpha) → c.hour_sums-sums.result.weighted * c.from-alpha.result ≤ 11028000000000000000
product c =
    rw (c.from-alpha.ensures, c.alpha.ensures, c.hour_sums-sums.ensures.1)
    (hour_product c.args.self.now.job _ (hour_sum_top c.args.self.now.accepted))

pub overflow_mul-sums : goal.overflow_mul-sums
overflow_mul-sums c = let p = product (goal.at.overflow_mul-sums c).After-from-alpha in omega arith

pub divide_up-requires : goal.divide_up-requires
divide_up-requires c =
    let a = c.args.self.now.accepted in
    let p = product (goal.at.divide_up-requires c).After-from-alpha in
    (omega (arith, c.hour_sums-sums.ensures.0, hour_sum_pos a.valid), omega (arith, c.hour_sums-sums.ensures.0, hour_sum_top a))
