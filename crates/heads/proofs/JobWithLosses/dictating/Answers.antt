-- Each section's reach is above the best so far or not.
-- Assumes nothing.
use Rattle.std.proofs.Common.{◌≡◌, ◌-◌, get_or, arith}
use Rattle.std.proofs.lemmas.Int.{ints}
use Rattle.fields.specs.Fields.{count_of}
use Rattle.heads.specs.Heads.{reach_of}
use Rattle.heads.proofs.Bounds.{given_head}
use Rattle.heads.proofs.Best.{best_start, best_more, best_same, best_end}
use Rattle.heads.proofs.JobWithLosses.dictating.Goals as goal
use Rattle.heads.proofs.JobWithLosses.dictating.Goals.{then-best-reach, else-best-reach}

pub reach_at-requires : goal.reach_at-requires
reach_at-requires c = (omega arith, (given_head c.args.self.now.given).sections.low)

pub loop-section-init : goal.loop-section-init
loop-section-init c = let some = (given_head c.args.self.now.given).sections.low in (omega arith, best_start (omega (arith, ints, c.reach_at.ensures)))

pub loop-section-preserved : goal.loop-section-preserved
loop-section-preserved c =
    let is : c.reach_at-reach.result ≡ reach_of c.args.self.now.job.now (λ i. get_or c.args.self.now.losses i 0) c.loop-section.section =
    omega (arith, ints, c.reach_at-reach.ensures) in (
      omega arith,
      elim c.if-best-reach.branch [
        | then-best-reach w ↦ rw w.best-is (best_more c.loop-section.invariant.1 (omega arith) (omega arith) (omega (arith, ints, is)) (grind (arith, ints)))
        | else-best-reach w ↦ rw w.best-is (best_same c.loop-section.invariant.1 (omega arith) (omega arith) is (grind (arith, ints)))
      ],
    )

pub returns : goal.returns
returns c =
    let e : c.loop-section.section - 1 ≡ count_of c.args.self.now.job.now = omega arith in
    best_end c.args.self.now.job.now _ (rw e at c.loop-section.invariant.1)

pub returns-after-best-reach : goal.returns-after-best-reach
returns-after-best-reach c =
    let is : c.reach_at-reach.result ≡ reach_of c.args.self.now.job.now (λ i. get_or c.args.self.now.losses i 0) c.loop-section.section =
    omega (arith, ints, c.reach_at-reach.ensures) in
    best_end c.args.self.now.job.now _
    (elim c.if-best-reach.branch [
      | then-best-reach w ↦ rw w.best-is (best_more c.loop-section.invariant.1 (omega arith) (omega arith) (omega (arith, ints, is)) (grind (arith, ints)))
      | else-best-reach w ↦ rw w.best-is (best_same c.loop-section.invariant.1 (omega arith) (omega arith) is (grind (arith, ints)))
    ])
