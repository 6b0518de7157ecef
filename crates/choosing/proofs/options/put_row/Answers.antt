-- Each turn writes one size's entries.
-- Assumes nothing.
use Rattle.std.proofs.Common.{ap, ◌∙◌, arith}
use Rattle.catalogue.proofs.AcceptedCat.{cat_counts}
use Rattle.choosing.specs.Steps.{entry_of}
use Rattle.choosing.proofs.Placed.{entered_more, entered_last}
use Rattle.choosing.proofs.options.put_row.Goals as goal

pub loop-s-preserved : goal.loop-s-preserved
loop-s-preserved c =
    let thin = (cat_counts c.args.catalogue.now.accepted).0.high in
    record {
      within = omega arith;
      losses = entered_more _ _ _ _ _ _ c.requires (omega arith) (omega (arith, thin)) c.loop-s.invariant.losses (c.entry.ensures ∙ ap entry_of c.try_size-tried.ensures.is);
      costs = entered_more _ _ _ _ _ _ c.requires (omega arith) (omega (arith, thin)) c.loop-s.invariant.costs (cc);
    }

pub returns-2-clause-losses : goal.returns-2-clause-losses
returns-2-clause-losses c =
    let thin = (cat_counts c.args.catalogue.now.accepted).0.high in
    entered_last _ _ _ _ _ _ _ (omega arith) c.requires (omega arith) (omega (arith, thin)) c.loop-s.invariant.losses (c.entry.ensures ∙ ap entry_of c.try_size-tried.ensures.is)

pub returns-2-clause-costs : goal.returns-2-clause-costs
returns-2-clause-costs c =
    let thin = (cat_counts c.args.catalogue.now.accepted).0.high in
    entered_last _ _ _ _ _ _ _ (omega arith) c.requires (omega arith) (omega (arith, thin)) c.loop-s.invariant.costs (cc)
