-- `demand::sums::sums_of` meets its contract: a kind's part is added to those before it, and its tap compared with theirs.
-- Assumes nothing.
use Rattle.std.proofs.Common.{◌≡◌, ◌-◌, ◌*◌, arith, sym, ◌∙◌}
use Rattle.basis.proofs.Most.{most_none}
use Rattle.tree.specs.Tree.{served_of}
use Rattle.demand.specs.Demand.{share_of, m_of, fixture_sum_of, tap_of}
use Rattle.demand.proofs.Cells.{kind_counts}
use Rattle.demand.proofs.Partial.{sum_start, sum_turn, sum_end, tap_turn}
use Rattle.demand.proofs.Equations.{one_tap_is}
use Rattle.demand.proofs.sums.sums_of.Goals as goal

pub loop-kind-init : goal.loop-kind-init
loop-kind-init c =
    rw (c.default-sums.ensures.0, c.default-sums.ensures.1.0, c.default-sums.ensures.1.1) (omega arith, sum_start _ _, sum_start _ _, omega (arith, most_none))

pub part_of-part-requires : goal.part_of-part-requires
part_of-part-requires c =
    let k = kind_counts {i = c.args.i} {kind = c.loop-kind.kind} c.args.tree.now.rooted c.requires.0 (omega arith) (omega arith, omega arith) in
    (omega arith, omega arith, omega arith, omega arith)

pub loop-kind-preserved : goal.loop-kind-preserved
unfolding share_of tap_of
loop-kind-preserved c =
    let part = c.part_of-part.ensures in
    let job = c.args.tree.now.job.now in
    let served = served_of job c.args.i in
    let k = kind_counts {i = c.args.i} {kind = c.loop-kind.kind} c.args.tree.now.rooted c.requires.0 (omega arith) (omega arith, omega arith) in
    let n : c.from-n.result ≡ served c.loop-kind.kind = c.from-n.ensures ∙ k.served in
    let share : c.part_of-part.result.m ≡ share_of job served c.loop-kind.kind =
    rw (← n, ← k.house, ← c.from-house.ensures) part.share_is in
    let tap : c.part_of-part.result.tap ≡ 10 * tap_of job served c.loop-kind.kind = part.tap_is ∙ rw n in (
      omega arith,
      sum_turn c.loop-kind.invariant.1 (omega arith) share part.share_top,
      sum_turn c.loop-kind.invariant.2 (omega arith) (part.weighted_is ∙ rw share) part.weighted_top,
      c.max.ensures ∙ tap_turn _ (omega arith) c.loop-kind.invariant.3 tap,
    )

pub returns : goal.returns
unfolding m_of fixture_sum_of
returns c =
    let last : c.loop-kind.kind - 1 ≡ 12 = omega arith in (
      sum_end c.loop-kind.invariant.1 (omega arith) (omega arith),
      sum_end c.loop-kind.invariant.2 (omega arith) (omega arith),
      rw last at c.loop-kind.invariant.3 ∙ sym (one_tap_is _ _),
    )
