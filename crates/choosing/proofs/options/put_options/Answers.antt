-- Each turn writes one section's rows.
-- Assumes nothing.
use Rattle.std.proofs.Common.{arith}
use Rattle.demand.proofs.Validity.{valid_count}
use Rattle.catalogue.proofs.AcceptedCat.{cat_counts}
use Rattle.choosing.specs.Suitable.{price_at}
use Rattle.choosing.specs.Steps.{loss_entry}
use Rattle.choosing.proofs.Entries.{flow_held}
use Rattle.choosing.proofs.Placed.{tabled_more, tabled_last}
use Rattle.choosing.proofs.options.put_options.Goals as goal

pub loop-i-preserved : goal.loop-i-preserved
unfolding loss_entry price_at
loop-i-preserved c =
    let thin = (cat_counts c.args.catalogue.now.accepted).0.high in
    let flow = flow_held c.args.accepted.now.job _ c.loop-i.i c.flows-flows.ensures (valid_count c.args.accepted.now.accepted.valid).high (omega arith) (omega arith) in
    record {
      within = omega arith;
      losses = tabled_more _ _ _ _ _ (omega (arith, thin)) (omega arith) c.loop-i.invariant.losses (rw (flow, c.of-pipe.ensures.limit, c.of-pipe.ensures.decimetres, c.of-pipe.ensures.tenths) at c.put_row.ensures.losses);
      costs = tabled_more _ _ _ _ _ (omega (arith, thin)) (omega arith) c.loop-i.invariant.costs (rw c.of-pipe.ensures.decimetres at c.put_row.ensures.costs);
    }

pub returns-2-clause-losses : goal.returns-2-clause-losses
unfolding loss_entry
returns-2-clause-losses c =
    let thin = (cat_counts c.args.catalogue.now.accepted).0.high in
    let flow = flow_held c.args.accepted.now.job _ c.loop-i.i c.flows-flows.ensures (valid_count c.args.accepted.now.accepted.valid).high (omega arith) (omega arith) in
    tabled_last _ _ _ _ _ _ (omega arith) (omega (arith, thin)) (omega arith) c.loop-i.invariant.losses (rw (flow, c.of-pipe.ensures.limit, c.of-pipe.ensures.decimetres, c.of-pipe.ensures.tenths) at c.put_row.ensures.losses)

pub returns-2-clause-costs : goal.returns-2-clause-costs
unfolding price_at
returns-2-clause-costs c =
    let thin = (cat_counts c.args.catalogue.now.accepted).0.high in
    tabled_last _ _ _ _ _ _ (omega arith) (omega (arith, thin)) (omega arith) c.loop-i.invariant.costs (rw c.of-pipe.ensures.decimetres at c.put_row.ensures.costs)
