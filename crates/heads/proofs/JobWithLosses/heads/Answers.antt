-- Required head and pump head from the greatest reach.
-- Assumes nothing.
use Rattle.std.proofs.Common.{get_or, pos, ◌-ℤ◌, arith}
use Rattle.std.proofs.lemmas.Int.{ints, clamps}
use Rattle.heads.specs.Heads.{required_of, pump_at}
use Rattle.heads.proofs.Signed.{clamped_max}
use Rattle.heads.proofs.Bounds.{given_head, greatest_small}
use Rattle.heads.proofs.JobWithLosses.heads.Goals as goal

pub overflow_add-required : goal.overflow_add-required
overflow_add-required c =
    omega (arith, ints, c.dictating-best.ensures.0, greatest_small c.args.self.now.given, (given_head c.args.self.now.given).meter)

pub overflow_sub-over : goal.overflow_sub-over
overflow_sub-over c =
    omega (arith, ints, c.dictating-best.ensures.0, greatest_small c.args.self.now.given, given_head c.args.self.now.given)

pub returns : goal.returns
unfolding required_of pump_at
returns c =
    let job = c.args.self.now.job.now in
    let b = greatest_small c.args.self.now.given in
    let h = given_head c.args.self.now.given in
    let over = required_of job (λ i. get_or c.args.self.now.losses i 0) -ℤ pos job.header.guaranteed in
    let pump = clamped_max over c.max.result (omega (arith, ints, clamps, c.dictating-best.ensures.0, c.max.ensures.value)) in (
      omega (arith, ints, c.dictating-best.ensures.0),
      omega (arith, ints, pump),
      c.dictating-best.ensures.1,
    )
