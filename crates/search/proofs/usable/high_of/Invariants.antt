-- What the ends of the sections of higher numbers can use is reckoned in.
-- Assumes nothing.
use Rattle.nets.specs.NetIn.{net_in}
use Rattle.search.proofs.Usables.{UsableAbove}
use Rattle.search.proofs.usable.high_of.Given as goal

abbrev pub invariant-loop-s : goal.invariant-loop-s
invariant-loop-s l = UsableAbove (net_in l.tables) l.head l.highs l.s
