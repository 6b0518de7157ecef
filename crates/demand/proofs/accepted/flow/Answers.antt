-- `demand::accepted::flow` meets its contract: the product with α fits, and so does the quotient, which is the average.
-- Assumes nothing.
use Rattle.std.proofs.Common.{◌*◌, ◌≤◌, arith}
use Rattle.demand.proofs.DesignFlows.{alpha_product, alpha_quotient}
use Rattle.demand.proofs.accepted.flow.Goals as goal
use Rattle.demand.proofs.accepted.flow.Goals.{After-from-alpha}

product : (c : After-from-alpha) → c.args.s.weighted * c.from-alpha.result ≤ 30 * c.args.s.m * 91900000
product c = rw (c.from-alpha.ensures, c.alpha.ensures) (alpha_product _ _ _ (omega arith))

pub overflow_mul-s : goal.overflow_mul-s
overflow_mul-s c = let p = product (goal.at.overflow_mul-s c).After-from-alpha in omega arith

pub divide_up-average-requires : goal.divide_up-average-requires
divide_up-average-requires c = let p = product (goal.at.divide_up-average-requires c).After-from-alpha in (omega arith, omega arith)

pub overflow_cast-result : goal.overflow_cast-result
overflow_cast-result c =
    let a : c.divide_up-average.result ≤ 137850 =
    rw (c.divide_up-average.ensures, c.from-alpha.ensures, c.alpha.ensures)
    (alpha_quotient _ (30 * c.args.s.m) _ _ (omega arith) (omega arith) (omega arith)) in
    omega arith
