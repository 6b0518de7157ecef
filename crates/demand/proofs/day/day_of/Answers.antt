-- `demand::day::day_of` meets its contract: a kind's day is added to those before it.
-- Assumes nothing.
use Rattle.std.proofs.Common.{arith}
use Rattle.demand.specs.Demand.{day_of}
use Rattle.demand.proofs.Partial.{sum_start, sum_turn, sum_end}
use Rattle.demand.proofs.day.day_of.Goals as goal

pub loop-kind-init : goal.loop-kind-init
loop-kind-init c = (omega arith, sum_start _ _)

pub loop-kind-preserved : goal.loop-kind-preserved
loop-kind-preserved c = (
  omega arith,
  sum_turn c.loop-kind.invariant.1 (omega arith) c.day_part-day.ensures.0 c.day_part-day.ensures.1,
)

pub returns : goal.returns
unfolding day_of
returns c = sum_end c.loop-kind.invariant.1 (omega arith) (omega arith)
