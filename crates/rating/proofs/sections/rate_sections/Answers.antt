-- Each section with its size: the first that is over ends the loop, and the figures of the others stand at their places.
-- Assumes nothing.
use Rattle.std.proofs.Common.{get_or, arith}
use Rattle.demand.proofs.Validity.{valid_count}
use Rattle.sizing.proofs.Named.{list_long, list_names}
use Rattle.rating.proofs.Upto.{Figures, flow_in, none_tried, some_tried, upto_start, upto_more, upto_over, upto_end}
use Rattle.rating.proofs.sections.rate_sections.Goals as goal
use Rattle.rating.proofs.sections.rate_sections.Goals.{In_ok-tried}

pub loop-i-init : goal.loop-i-init
loop-i-init c =
    record {
      few = (valid_count c.args.accepted.now.accepted.valid).high;
      long = list_long _ _ _ c.requires;
      below = omega arith;
      upto = upto_start _ _ _ _ c.default-figures.ensures;
    }

pub try_size-requires : goal.try_size-requires
try_size-requires c =
    let s = list_names c.args.accepted.now.job c.args.catalogue.now.bytes.now c.args.list.now c.requires c.loop-i.i (omega arith) (omega arith) in
    (omega arith, omega arith)

pub returns-in_err-tried : goal.returns-in_err-tried
returns-in_err-tried c =
    let flow = flow_in c.args.accepted.now.job c.args.catalogue.now.bytes.now c.args.list.now c.loop-i.i c.flows-flows.ensures (omega arith) (omega arith) (omega arith) in
    let over = none_tried c.args.accepted.now.job c.args.catalogue.now.bytes.now c.args.list.now c.loop-i.i (omega arith) flow (rw (c.of-pipe.ensures.limit, c.of-pipe.ensures.decimetres, c.of-pipe.ensures.tenths) at c.in_err-tried.ensures.is) in
    rw c.from_residual.ensures (upto_over _ _ _ c.loop-i.invariant.upto (omega arith) (omega arith) (omega arith) over)

-- a section that is not over
figures : (c : In_ok-tried) →
    Figures c.args.accepted.now.job c.args.catalogue.now.bytes.now c.args.list.now c.loop-i.i
    (record { flow = get_or c.flows-flows.result c.loop-i.i 0; velocity = c.in_ok-tried.tried.velocity; loss = c.in_ok-tried.tried.loss })
figures c =
    let flow = flow_in c.args.accepted.now.job c.args.catalogue.now.bytes.now c.args.list.now c.loop-i.i c.flows-flows.ensures (omega arith) (omega arith) (omega arith) in
    some_tried c.args.accepted.now.job c.args.catalogue.now.bytes.now c.args.list.now c.loop-i.i (omega arith) flow (rw (c.of-pipe.ensures.limit, c.of-pipe.ensures.decimetres, c.of-pipe.ensures.tenths) at c.in_ok-tried.ensures.is) c.in_ok-tried.ensures.small

pub loop-i-preserved : goal.loop-i-preserved
loop-i-preserved c =
    record {
      few = c.loop-i.invariant.few;
      long = c.loop-i.invariant.long;
      below = omega arith;
      upto = upto_more _ _ _ c.loop-i.invariant.upto (omega arith) (omega arith) (figures (goal.at.loop-i-preserved c).In_ok-tried);
    }

pub returns : goal.returns
returns c = upto_end _ _ _ c.loop-i.invariant.upto (omega arith)

pub returns-in_ok-tried : goal.returns-in_ok-tried
returns-in_ok-tried c =
    upto_end _ _ _ (upto_more _ _ _ c.loop-i.invariant.upto (omega arith) (omega arith) (figures (goal.at.returns-in_ok-tried c).In_ok-tried)) (omega arith)
