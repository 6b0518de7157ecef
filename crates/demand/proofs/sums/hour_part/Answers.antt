-- `demand::sums::hour_part` meets its contract: a kind without residents adds nothing, and else the products fit, by the bounds of the norms.
-- Assumes nothing.
use Rattle.std.proofs.Common.{◌≡◌, ◌*◌, arith, sym}
use Rattle.std.proofs.Math.Nat.{mul-zero}
use Rattle.basis.proofs.Round.{up_zero}
use Rattle.fields.specs.Fields.{residents_of}
use Rattle.demand.specs.Demand.{norm_at}
use Rattle.demand.proofs.Tops.{HourFits, kind_hour_fits, hour_share_top, hour_weighted_top}
use Rattle.demand.proofs.sums.hour_part.Goals as goal
use Rattle.demand.proofs.sums.hour_part.Goals.{After-norm_of-hour}

-- the products fit, by the bounds of the norms
fits : (c : After-norm_of-hour) → HourFits c.norm_of-hour.result c.from-residents.result
fits c = kind_hour_fits _ c.norm_of-hour.ensures c.requires.0 c.requires.1 (omega arith)

pub returns-then-residents-eq0 : goal.returns-then-residents-eq0
returns-then-residents-eq0 c =
    let norm = norm_at c.args.job.now c.args.kind in
    let none : residents_of c.args.job.now c.args.kind ≡ 0 = omega arith in
    rw (c.default.ensures.0, c.default.ensures.1) record {
      share_is = rw (none, mul-zero (100000 * norm.hour)) (sym (up_zero norm.hourly));
      share_top = omega arith;
      weighted_is = omega arith;
      weighted_top = omega arith;
    }

pub overflow_mul-hour : goal.overflow_mul-hour
overflow_mul-hour c = let f = fits (goal.at.overflow_mul-hour c).After-norm_of-hour in omega arith

pub overflow_mul-hour-2 : goal.overflow_mul-hour-2
overflow_mul-hour-2 c = let f = fits (goal.at.overflow_mul-hour-2 c).After-norm_of-hour in omega arith

pub divide_up-shares-requires : goal.divide_up-shares-requires
divide_up-shares-requires c = let f = fits (goal.at.divide_up-shares-requires c).After-norm_of-hour in omega arith

pub overflow_mul-result : goal.overflow_mul-result
overflow_mul-result c =
    let f = fits (goal.at.overflow_mul-result c).After-norm_of-hour in
    omega (arith, hour_weighted_top f c.divide_up-shares.ensures)

pub returns : goal.returns
returns c =
    let f = fits (goal.at.returns c).After-norm_of-hour in
    let norm : c.norm_of-hour.result ≡ norm_at c.args.job.now c.args.kind = c.norm_of-hour.ensures in
    record {
      share_is = rw (← norm, ← c.from-residents.ensures) c.divide_up-shares.ensures;
      share_top = hour_share_top f c.divide_up-shares.ensures;
      weighted_is = rw norm;
      weighted_top = hour_weighted_top f c.divide_up-shares.ensures;
    }
