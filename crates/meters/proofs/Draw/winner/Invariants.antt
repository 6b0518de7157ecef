-- The loop of `meters::Draw::winner`: the best of the meters up to place `i`.
-- Assumes nothing.
use Rattle.meters.proofs.Least.{Best}
use Rattle.meters.proofs.Draw.winner.Given as goal

abbrev pub invariant-loop-i : goal.invariant-loop-i
invariant-loop-i l = Best l.list l.self.flow l.self.mean l.i l.best
