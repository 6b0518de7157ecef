-- `demand::sums::part_of` meets its contract: a kind without fixtures adds nothing, and else the products fit, by the bounds of the norms.
-- Assumes nothing.
use Rattle.std.proofs.Common.{◌≡◌, arith, sym}
use borrow.Author.Tests.{ne_eqb, lt-ltb}
use Rattle.fields.specs.Fields.{residents_of}
use Rattle.demand.specs.Demand.{norm_at}
use Rattle.demand.proofs.Equations.{share_by}
use Rattle.demand.proofs.Shares.{by_zero}
use Rattle.demand.proofs.Tops.{SharesFit, kind_shares_fit, share_top, fixture_top}
use Rattle.demand.proofs.sums.part_of.Goals as goal
use Rattle.demand.proofs.sums.part_of.Goals.{After-norm_of-hour}

-- the products fit, by the bounds of the norms
fits : (c : After-norm_of-hour) → SharesFit c.norm_of-hour.result c.from-residents.result
fits c = kind_shares_fit _ c.norm_of-hour.ensures c.requires.0 c.requires.1 (omega arith)

pub returns-then-n-eq0 : goal.returns-then-n-eq0
unfolding share_by
returns-then-n-eq0 c =
    let none : c.args.n ≡ 0 = omega arith in
    rw (c.default.ensures.0, c.default.ensures.1.0, c.default.ensures.1.1) record {
      share_is = rw none (sym (by_zero (norm_at c.args.job.now c.args.kind) (residents_of c.args.job.now c.args.kind) c.args.house));
      share_top = omega arith;
      weighted_is = omega arith;
      weighted_top = omega arith;
      tap_is = rw none;
    }

pub overflow_mul-hour : goal.overflow_mul-hour
overflow_mul-hour c = let f = fits (goal.at.overflow_mul-hour c).After-norm_of-hour in omega arith

pub overflow_mul-hour-2 : goal.overflow_mul-hour-2
overflow_mul-hour-2 c = let f = fits (goal.at.overflow_mul-hour-2 c).After-norm_of-hour in omega arith

pub overflow_mul-hour-3 : goal.overflow_mul-hour-3
overflow_mul-hour-3 c = let f = fits (goal.at.overflow_mul-hour-3 c).After-norm_of-hour in omega (arith, f.over)

pub overflow_mul-fixture : goal.overflow_mul-fixture
overflow_mul-fixture c = let f = fits (goal.at.overflow_mul-fixture c).After-norm_of-hour in omega arith

pub overflow_mul-fixture-2 : goal.overflow_mul-fixture-2
overflow_mul-fixture-2 c = let f = fits (goal.at.overflow_mul-fixture-2 c).After-norm_of-hour in omega (arith, f.under)

pub divide_up-share-requires : goal.divide_up-share-requires
divide_up-share-requires c = let f = fits (goal.at.divide_up-share-requires c).After-norm_of-hour in omega (arith, f.over, f.under, f.some)

pub overflow_mul-result : goal.overflow_mul-result
overflow_mul-result c =
    let f = fits (goal.at.overflow_mul-result c).After-norm_of-hour in
    omega (arith, fixture_top (share_top c.divide_up-share.ensures (omega (arith, f.over)) (omega (arith, f.some))) f.norms.fixture.high)

pub overflow_mul-result-2 : goal.overflow_mul-result-2
overflow_mul-result-2 c = let f = fits (goal.at.overflow_mul-result-2 c).After-norm_of-hour in omega arith

pub returns : goal.returns
returns c =
    let f = fits (goal.at.returns c).After-norm_of-hour in
    let some : c.args.house ≡ 0 → ⊥ = λ e. omega arith in
    let share = share_top c.divide_up-share.ensures (omega (arith, f.over)) (omega (arith, f.some)) in
    let norm : c.norm_of-hour.result ≡ norm_at c.args.job.now c.args.kind = c.norm_of-hour.ensures in
    record {
      share_is = rw (ne_eqb _ _ some, ← norm, ← c.from-residents.ensures) c.divide_up-share.ensures;
      share_top = share;
      weighted_is = rw norm;
      weighted_top = fixture_top share f.norms.fixture.high;
      tap_is = rw (lt-ltb 0 c.args.n (omega arith), norm);
    }
