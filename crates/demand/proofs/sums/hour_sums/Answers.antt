-- `demand::sums::hour_sums` meets its contract: a kind's part is added to those before it.
-- Assumes nothing.
use Rattle.std.proofs.Common.{◌≡◌, arith, ◌∙◌}
use Rattle.demand.specs.Demand.{hour_share_of, hour_sum_of, hourly_sum_of}
use Rattle.demand.proofs.Partial.{sum_start, sum_turn, sum_end}
use Rattle.demand.proofs.sums.hour_sums.Goals as goal

pub loop-kind-init : goal.loop-kind-init
loop-kind-init c = rw (c.default-sums.ensures.0, c.default-sums.ensures.1) (omega arith, sum_start _ _, sum_start _ _)

pub loop-kind-preserved : goal.loop-kind-preserved
unfolding hour_share_of
loop-kind-preserved c =
    let part = c.hour_part-part.ensures in
    let share : c.hour_part-part.result.shares ≡ hour_share_of c.args.job.now c.loop-kind.kind = part.share_is in (
      omega arith,
      sum_turn c.loop-kind.invariant.1 (omega arith) share part.share_top,
      sum_turn c.loop-kind.invariant.2 (omega arith) (part.weighted_is ∙ rw share) part.weighted_top,
    )

pub returns : goal.returns
unfolding hour_sum_of hourly_sum_of
returns c = (
  sum_end c.loop-kind.invariant.1 (omega arith) (omega arith),
  sum_end c.loop-kind.invariant.2 (omega arith) (omega arith),
)
