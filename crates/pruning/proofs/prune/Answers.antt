-- Each turn takes sizes of a section out and raises its parent's need.
-- Assumes nothing.
use Rattle.std.proofs.Common.{rules, arith}
use Rattle.pruning.proofs.Pruning.{pruned_none, pruned_trimmed, pruned_stop, pruned_raised}
use Rattle.pruning.proofs.prune.Goals as goal

pub loop-s-init : goal.loop-s-init
loop-s-init c =
    let e = c.free_pump.ensures in
    pruned_none e.alike e.losses e.needs (search rules)

pub returns-in_err-least : goal.returns-in_err-least
returns-in_err-least c =
    let trimmed = pruned_trimmed c.loop-s.invariant c.trim.ensures.alike c.trim.ensures.needs c.trim.ensures.keeps in
    rw c.from_residual.ensures (pruned_stop trimmed c.loop-s.s (omega arith) (omega (arith, c.loop-s.invariant.alike.sections)) c.in_err-least.ensures)

pub loop-s-preserved : goal.loop-s-preserved
loop-s-preserved c =
    let trimmed = pruned_trimmed c.loop-s.invariant c.trim.ensures.alike c.trim.ensures.needs c.trim.ensures.keeps in
    pruned_raised trimmed c.loop-s.s (omega arith) (omega (arith, c.loop-s.invariant.alike.sections)) c.trim.ensures.trimmed c.in_ok-least.ensures c.raise.ensures
