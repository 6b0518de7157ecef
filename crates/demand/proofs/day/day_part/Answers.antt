-- `demand::day::day_part` meets its contract, with residents and without.
-- Assumes nothing.
use Rattle.std.proofs.Common.{◌≡◌, arith}
use Rattle.demand.specs.Demand.{norm_at}
use Rattle.demand.proofs.Tops.{known, people_top}
use Rattle.demand.proofs.day.day_part.Goals as goal

pub overflow_mul-result : goal.overflow_mul-result
overflow_mul-result c =
    let i = known _ c.norm_of-norm.ensures c.requires.0 c.requires.1 in omega (arith, people_top {residents = c.from-residents.result} (omega arith))

pub returns : goal.returns
returns c =
    let norm : c.norm_of-norm.result ≡ norm_at c.args.job.now c.args.kind = c.norm_of-norm.ensures in
    let i = known _ norm c.requires.0 c.requires.1 in
    (rw (norm, c.from-residents.ensures), omega (arith, people_top {residents = c.from-residents.result} (omega arith)))
